-- A field of a loose sheet: the words that a judge accepts, each followed by one or more spaces if a space is due, or by any number of spaces and
-- the line feed if that is due.
-- Assumes nothing.
use Rattle.std.specs.Prelude.{◌+◌, ◌≡◌, ◌∷◌, ◌++◌}
use Rattle.laws.specs.Prelude.{ℕ, suc, zero, ◌∙◌, sym, ap, refl, true, false, Bool, false≢true, List, [], append_assoc, arith, eqb}
use Rattle.laws.specs.Prelude.{replicate, eqb-true, test_cases}
use Rattle.rules.specs.Sheets.Fields.{read, turned_back, then, Judge, is_separator, separator, past_spaces, spaces_in, spaces, loose, loose_separator, field_in}
use Rattle.rules.specs.Text.{space, newline}
use Rattle.rules.specs.Sheets.LooseSheet.{blanks}
use Rattle.laws.specs.Lists.Tests.{all_iff}
use Rattle.readback.specs.Readers.Spells.{SpellsBetween, Any, Spells, not_read}
use Rattle.readback.specs.Readers.Fields.{plain, is_word, parts_space, parts_newline, Judges, separator_read, spells_field_in}

-- the text does not start with a space
abbrev pub NoSpace : List ℕ → Type 0
NoSpace rest = spaces_in rest ≡ 0

-- ---- skipping spaces

-- at a space, and at another byte
pub loose_at_space : (b : ℕ) (s : List ℕ) → eqb b space ≡ true → (past_spaces (b ∷ s) ≡ past_spaces s) × (spaces_in (b ∷ s) ≡ suc (spaces_in s))
unfolding past_spaces spaces_in
loose_at_space b s e = (rw (e, past_spaces) refl, rw (e, spaces_in) refl)

pub loose_at_other : (b : ℕ) (s : List ℕ) → eqb b space ≡ false → (past_spaces (b ∷ s) ≡ b ∷ s) × (spaces_in (b ∷ s) ≡ 0)
unfolding past_spaces spaces_in
loose_at_other b s e = (rw (e, past_spaces) refl, rw (e, spaces_in) refl)

-- if the text does not start with a space, none is skipped
none_passed : (s : List ℕ) → NoSpace s → past_spaces s ≡ s
none_passed [] h = unfold past_spaces in refl
none_passed (b ∷ s) h =
    test_cases (eqb b space) (λ e. absurd (omega (arith, (loose_at_space b s e).1))) (λ e. (loose_at_other b s e).0)

-- all blanks before something else are skipped
blanks_passed : (count : ℕ) (rest : List ℕ) → NoSpace rest → past_spaces (blanks count ++ rest) ≡ rest
unfolding blanks past_spaces space
blanks_passed zero rest h = none_passed rest h
blanks_passed (suc count) rest h = blanks_passed count rest h

-- any text is its spaces at the front, followed by what is past them
passed_blanks : (s : List ℕ) → s ≡ blanks (spaces_in s) ++ past_spaces s
unfolding blanks
passed_blanks [] = unfold past_spaces spaces_in in refl
passed_blanks (b ∷ s) = test_cases (eqb b space)
    (λ e.
    let (past, count) = loose_at_space b s e in
    rw (past, count) (ap (λ (c : ℕ). c ∷ s) (eqb-true b space e) ∙ ap (λ (t : List ℕ). space ∷ t) (passed_blanks s)))
    (λ e.
    let (past, count) = loose_at_other b s e in
    rw (past, count) refl)

-- ---- the two separators

-- a space, and any others
loose_space : {A : Type 0} (a : A) → SpellsBetween NoSpace Any (λ s at. loose_separator a space s at) ℕ (λ _. a) (λ count. blanks (suc count))
unfolding loose_separator separator then spaces blanks space
loose_space {A} a = record { back = λ count rest at h. (suc at + spaces_in (blanks count ++ rest), rw (blanks_passed count rest h) refl); only = only }
  where
    only : (s : List ℕ) (at : ℕ) (b : A) (rest : List ℕ) (place : ℕ) → loose_separator a space s at ≡ read b rest place
        → (count : ℕ) × (b ≡ a) × (s ≡ blanks (suc count) ++ rest) × Any rest
    only [] at b rest place e = absurd (not_read 1 at b rest place e)
    only (c ∷ s) at b rest place e = go (eqb c space) refl e
      where
        go : (t : Bool) → eqb c space ≡ t
            → then (elim t [ true ↦ read a s (suc at) | false ↦ turned_back 1 at ]) spaces ≡ read b rest place
            → (count : ℕ) × (b ≡ a) × (c ∷ s ≡ blanks (suc count) ++ rest) × Any rest
        go false d e = absurd (not_read 1 at b rest place e)
        go true d e =
            let is : past_spaces s ≡ rest = cc in (
              spaces_in s,
              (cc),
              ap (λ (x : ℕ). x ∷ s) (eqb-true c space d)
                  ∙ ap (λ (t : List ℕ). space ∷ t) (passed_blanks s ∙ ap (λ (t : List ℕ). blanks (spaces_in s) ++ t) is),
              tt,
            )

-- any spaces, and the line feed
loose_newline : {A : Type 0} (a : A) → Spells (λ s at. loose_separator a newline s at) ℕ (λ _. a) (λ count. blanks count ++ newline ∷ [])
unfolding loose_separator separator spaces_in then spaces space newline
loose_newline {A} a = record { back = back; only = only }
  where
    back : (count : ℕ) (rest : List ℕ) (at : ℕ) → Unit {0} → (place : ℕ)
        × (loose_separator a newline (blanks count ++ newline ∷ [] ++ rest) at ≡ read a rest place)
    back count rest at _ = (
      suc (at + spaces_in (blanks count ++ newline ∷ [] ++ rest)),
      rw (append_assoc (blanks count) (newline ∷ []) rest, blanks_passed count (newline ∷ rest) refl) refl,
    )

    only : (s : List ℕ) (at : ℕ) (b : A) (rest : List ℕ) (place : ℕ) → loose_separator a newline s at ≡ read b rest place
        → (count : ℕ) × (b ≡ a) × (s ≡ blanks count ++ newline ∷ [] ++ rest) × Unit {0}
    only s at b rest place e =
        let (i, j) = separator_read a newline (past_spaces s) (at + spaces_in s) b rest place e in
        (spaces_in s, i, passed_blanks s ∙ ap (λ (t : List ℕ). blanks (spaces_in s) ++ t) j ∙ sym (append_assoc (blanks (spaces_in s)) (newline ∷ []) rest), tt)

-- blanks and the line feed start with a separator
blanks_begin : (count : ℕ) → (b : ℕ) × (t : List ℕ) × (is_separator b ≡ true) × (blanks count ++ newline ∷ [] ≡ b ∷ t)
unfolding blanks
blanks_begin zero = (newline, [], parts_newline, refl)
blanks_begin (suc count) = (space, replicate count space ++ newline ∷ [], parts_space, refl)

space_begins : (count : ℕ) → (b : ℕ) × (t : List ℕ) × (is_separator b ≡ true) × (blanks (suc count) ≡ b ∷ t)
unfolding blanks
space_begins count = (space, replicate count space, parts_space, refl)

-- ---- the two fields

module _ {A : Type 0} {judge : Judge A} {X : Type 0} {f : X → A} {p : X → List ℕ} (judges : Judges judge X f p) where
  -- a field before others
  pub spells_parted : SpellsBetween NoSpace Any (field_in loose judge space) (X × ℕ) (λ z. f z.0) (λ z. p z.0 ++ blanks (suc z.1))
  spells_parted = spells_field_in loose space loose_space space_begins judges

  -- a line's last field
  pub spells_last : Spells (field_in loose judge newline) (X × ℕ) (λ z. f z.0) (λ z. p z.0 ++ (blanks z.1 ++ newline ∷ []))
  spells_last = spells_field_in loose newline loose_newline blanks_begin judges

-- a word does not start with a space
pub word_first : (w rest : List ℕ) → is_word w ≡ true → NoSpace (w ++ rest)
unfolding is_word plain is_separator
word_first [] rest h = absurd (false≢true h)
word_first (b ∷ w) rest h = test_cases (eqb b space)
    (λ e. absurd (false≢true (rw e at ((all_iff plain b w).0 h).0)))
    (λ e. (loose_at_other b (w ++ rest) e).1)
