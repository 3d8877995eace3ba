-- One field of a sheet: the words that a judge accepts, each followed by the separator that is due, in either layout.
-- Assumes nothing.
use Rattle.std.specs.Prelude.{◌+◌, ◌≡◌, ◌∷◌, ◌++◌}
use Rattle.laws.specs.Prelude.{ℕ, suc, ◌∙◌, sym, ap, refl, ap₂, true, false, Bool, not, false≢true, List, [], append_assoc, arith, eqb}
use Rattle.laws.specs.Prelude.{length, eq-eqb, eqb-true, not-true, judged_cases}
use Rattle.rules.specs.Lists.{all, same}
use Rattle.rules.specs.Sheets.Fields.{Read, read, turned_back, then, ◌>>=◌, give, Judged, good, bad, Judge, judged, is_separator, run, past, separator, strict}
use Rattle.rules.specs.Sheets.Fields.{Layout, separator_in, after_field_in, field_of_in, field, field_in, the_word, closed}
use Rattle.rules.specs.Text.{space, newline, text}
use Prim.Native.String.{String}
use Rattle.laws.specs.Lists.Tests.{all_iff}
use Rattle.laws.specs.Lists.Same.{same_refl, same_true}
use Rattle.laws.specs.Lists.Runs.{run_past}
use Rattle.readback.specs.Readers.Spells.{SpellsBetween, SpellsTo, Spells, not_read, spells_as}

-- a byte that a field may hold
unfoldable pub plain : ℕ → Bool
plain b = not (is_separator b)

-- bytes that a field may be: at least one, and none a separator
unfoldable pub is_word : List ℕ → Bool
is_word [] = false
is_word (b ∷ w) = all plain (b ∷ w)

-- the two separators
pub parts_space : is_separator space ≡ true
unfolding is_separator space newline
parts_space = refl

pub parts_newline : is_separator newline ≡ true
unfolding is_separator space newline
parts_newline = refl

-- ---- the longest run of bytes other than separators

-- plain bytes before a separator are the run
run_plain : (w : List ℕ) (due : ℕ) (rest : List ℕ) → all plain w ≡ true → is_separator due ≡ true → run (w ++ due ∷ rest) ≡ w
unfolding plain run
run_plain [] due rest h e = rw (e, run)
run_plain (b ∷ w) due rest h e =
    let (i, j) = (all_iff plain b w).0 h in
    rw (not-true (is_separator b) i, run) (ap (λ v. b ∷ v) (run_plain w due rest j e))

-- and the separator follows them
past_plain : (w : List ℕ) (due : ℕ) (rest : List ℕ) → all plain w ≡ true → is_separator due ≡ true → past (w ++ due ∷ rest) ≡ due ∷ rest
unfolding plain past
past_plain [] due rest h e = rw (e, past)
past_plain (b ∷ w) due rest h e =
    let (i, j) = (all_iff plain b w).0 h in
    rw (not-true (is_separator b) i, past) (past_plain w due rest j e)

-- ---- a judge and the words that it accepts

-- `judge` accepts the words `print x`, with value `value x`, and no others
pub record Judges {A : Type 0} (judge : Judge A) (X : Type 0) (value : X → A) (print : X → List ℕ) : Type 0 where
  pub passes : (x : X) → judge (print x) ≡ good (value x)
  pub word : (x : X) → is_word (print x) ≡ true
  pub only : (w : List ℕ) (a : A) → judge w ≡ good a → (x : X) × (a ≡ value x) × (w ≡ print x)

-- a bad verdict is not good
pub not_good : {A : Type 0} (number : ℕ) (a : A) → ◌≡◌ {A = Judged A} (bad number) (good a) → ⊥
not_good number a e =
    let z : ◌≡◌ {A = ℕ} 0 1 = cc in
    omega arith

-- if the verdict is good, the test passed
pub judged_good : {A : Type 0} (test : Bool) (a : A) (number : ℕ) (b : A) → judged test a number ≡ good b → (test ≡ true) × (b ≡ a)
judged_good true a number b e = (refl, (cc))
judged_good false a number b e = ((cc), (cc))

-- ---- a field

-- the separator was there
pub separator_read : {A : Type 0} (a : A) (due : ℕ) (s : List ℕ) (end : ℕ) (b : A) (rest : List ℕ) (place : ℕ)
    → separator a due s end ≡ read b rest place → (b ≡ a) × (s ≡ due ∷ rest)
unfolding separator
separator_read a due [] end b rest place e = absurd (not_read 1 end b rest place e)
separator_read {A} a due (c ∷ s) end b rest place e = go (eqb c due) refl e
  where
    go : (t : Bool) → eqb c due ≡ t → ◌≡◌ {A = Read A} (elim t [ true ↦ read a s (suc end) | false ↦ turned_back 1 end ]) (read b rest place)
        → (b ≡ a) × (c ∷ s ≡ due ∷ rest)
    go true d e = ((cc), ap₂ ◌∷◌ (eqb-true c due d) (cc))
    go false d e = absurd (not_read 1 end b rest place e)

-- a word's bytes are plain
word_plain : (w : List ℕ) → is_word w ≡ true → all plain w ≡ true
unfolding is_word
word_plain [] h = absurd (false≢true h)
word_plain (b ∷ w) h = h

-- A field in either layout. The separator that is due spells the texts `gap c`, each of which starts with a space or a line feed.
module _ (layout : Layout) (due : ℕ) {A : Type 0} {Before After : List ℕ → Type 0} {C : Type 0} {gap : C → List ℕ}
    (parts : (a : A) → SpellsBetween Before After (λ s at. separator_in layout a due s at) C (λ _. a) gap)
    (begins : (c : C) → (b : ℕ) × (t : List ℕ) × (is_separator b ≡ true) × (gap c ≡ b ∷ t)) where
  -- if a field was read, its word was judged good, and the separator follows it
  field_read : (judge : Judge A) (w s : List ℕ) (at : ℕ) (a : A) (rest : List ℕ) (place : ℕ)
      → field_of_in layout judge due w s at ≡ read a rest place → (c : C) × (judge w ≡ good a) × (s ≡ gap c ++ rest) × After rest
  unfolding field_of_in after_field_in
  field_read judge [] s at a rest place e = absurd (not_read 1 at a rest place e)
  field_read judge (b ∷ w) s at a rest place e = judged_cases (judge (b ∷ w))
      (λ x d.
      let (c, i, j, h) = (parts x).only s (at + suc (length w)) a rest place (rw d at e) in
      (c, d ∙ ap good (sym i), j, h))
      (λ number d. absurd (not_read number at a rest place (rw d at e)))

  -- a word that is judged good is read if its separator follows
  field_of_word : (judge : Judge A) (w : List ℕ) (a : A) (c : C) (rest : List ℕ) (at : ℕ)
      → is_word w ≡ true → judge w ≡ good a → Before rest → (place : ℕ) × (field_of_in layout judge due w (gap c ++ rest) at ≡ read a rest place)
  unfolding field_of_in after_field_in is_word
  field_of_word judge [] a c rest at h e k = absurd (false≢true h)
  field_of_word judge (b ∷ w) a c rest at h e k = rw e ((parts a).back c rest (at + suc (length w)) k)

  -- the same for the reader of the field
  field_back : (judge : Judge A) (w : List ℕ) (a : A) (c : C) (rest : List ℕ) (at : ℕ)
      → is_word w ≡ true → judge w ≡ good a → Before rest → (place : ℕ) × (field_in layout judge due (w ++ gap c ++ rest) at ≡ read a rest place)
  unfolding field_in
  field_back judge w a c rest at h e k =
      let (b, t, parting, is) = begins c in
      let laid : w ++ gap c ++ rest ≡ w ++ b ∷ (t ++ rest) = append_assoc w (gap c) rest ∙ ap (λ (g : List ℕ). w ++ (g ++ rest)) is in
      rw (ap run laid ∙ run_plain w b (t ++ rest) (word_plain w h) parting, ap past laid ∙ past_plain w b (t ++ rest) (word_plain w h) parting)
      (rw is at (field_of_word judge w a c rest at h e k))

  -- a field spells its judge's words, each followed by the separator
  pub spells_field_in : {judge : Judge A} {X : Type 0} {f : X → A} {p : X → List ℕ} → Judges judge X f p
      → SpellsBetween Before After (field_in layout judge due) (X × C) (λ z. f z.0) (λ z. p z.0 ++ gap z.1)
  unfolding field_in
  spells_field_in {judge = judge} {f = f} {p = p} judges = record {
    back = λ z rest at k. field_back judge (p z.0) (f z.0) z.1 rest at (judges.word z.0) (judges.passes z.0) k;
    only = λ s at a rest place e.
        let (c, i, j, h) = field_read judge (run s) (past s) at a rest place e in
        let (x, q, k) = judges.only (run s) a i in
        ((x, c), q, run_past s ∙ ap₂ ◌++◌ k j ∙ sym (append_assoc (p x) (gap c) rest), h);
  }

-- in the strict layout, the separator is that one byte
spells_separator : {A : Type 0} (due : ℕ) (a : A) → Spells (λ s at. separator a due s at) (Unit {0}) (λ _. a) (λ _. due ∷ [])
unfolding separator
spells_separator due a = record {
  back = λ _ rest at _. (suc at, rw (eq-eqb due due refl, separator) refl);
  only = λ s at b rest place e.
      let (i, j) = separator_read a due s at b rest place e in
      (tt, i, j, tt);
}

pub spells_field : {A : Type 0} {judge : Judge A} {X : Type 0} {f : X → A} {p : X → List ℕ} (due : ℕ) → is_separator due ≡ true
    → Judges judge X f p → Spells (field judge due) X f (λ x. p x ++ due ∷ [])
spells_field due d judges =
    spells_as (spells_field_in strict due (spells_separator due) (λ _. (due, [], d, refl)) judges) (λ z. (z.0, refl, refl)) (λ x. ((x, tt), refl, refl))

-- a fixed word
pub judges_word : (word : String) → is_word (text word) ≡ true → Judges (the_word word) (Unit {0}) (λ _. tt) (λ _. text word)
unfolding the_word
judges_word word h = record {
  passes = λ _. rw same_refl;
  word = λ _. h;
  only = λ w a e. (tt, refl, same_true w (text word) (judged_good (same w (text word)) tt 1 a e).0);
}

-- ---- the end of a sheet

-- nothing follows the last line
abbrev pub Ended : List ℕ → Type 0
Ended rest = rest ≡ []

-- if an end was read, nothing was left
closed_read : {A : Type 0} (a : A) (s : List ℕ) (at : ℕ) (b : A) (rest : List ℕ) (place : ℕ) → (closed >>= λ _. give a) s at ≡ read b rest place
    → (x : Unit {0}) × (b ≡ a) × (s ≡ rest) × (rest ≡ [])
unfolding closed then
closed_read a [] at b rest place e = (tt, (cc), (cc), (cc))
closed_read a (c ∷ s) at b rest place e = absurd (not_read 1 at b rest place e)

-- the end of a sheet, and the value given there
pub spells_end : {A : Type 0} (a : A) → SpellsTo Ended (closed >>= λ _. give a) (Unit {0}) (λ _. a) (λ _. [])
unfolding closed then
spells_end a = record { back = λ x rest at h. (at, rw h); only = closed_read a }
