-- "Sheets are judged from the front, field by field. An empty field is 1. Otherwise the field is judged, then the byte after it." So a
-- refusal depends only on the bytes before its place, the byte there and the field there. Stated once for readers, with the
-- place at which each stops; the laws here combine such readers.
-- Assumes nothing.
use Rattle.std.specs.Prelude.{◌≤◌, ◌+◌, ◌≡◌, ◌∷◌, ◌++◌}
use Rattle.laws.specs.Prelude.{ℕ, suc, ◌∙◌, sym, ap, refl, ap₂, true, false, Bool, List, [], append_assoc, zero-add, add-zero}
use Rattle.laws.specs.Prelude.{suc-add, add-suc, add-one, arith, eqb, length, take, drop, length-append, append_snoc, drop_at, take-append-add, eq-eqb}
use Rattle.laws.specs.Prelude.{eqb-true, test_cases, read_cases, judged_cases}
use Rattle.rules.specs.Sheets.Fields.{Read, read, turned_back, Reader, then, ◌>>=◌, give, Judged, good, bad, Judge, is_separator, run, past, separator}
use Rattle.rules.specs.Sheets.Fields.{after_field, after_field_in, field_of, field_of_in, field, field_in, closed}
use Rattle.laws.specs.Lists.Runs.{field_end, at_separator, at_plain, run_past}
use Rattle.readback.specs.Readers.Spells.{not_read}

-- ---- texts that start alike

-- the same first byte, or neither has one
abbrev pub StartAlike : List ℕ → List ℕ → Type 0
StartAlike t s = take 1 t ≡ take 1 s

-- the same field in front, or none, and the same first byte, or neither has one
pub record FieldAlike (t s : List ℕ) : Type 0 where
  pub same_field : run t ≡ run s
  pub same_start : StartAlike t s

-- a text that starts like the empty text is empty
pub none_alike : (t : List ℕ) → StartAlike t [] → t ≡ []
none_alike [] e = refl
none_alike (b ∷ t) e = absurd (let z : ◌≡◌ {A = ℕ} 0 1 = cc in omega arith)

-- texts that start alike do so after any bytes
pub behind_alike : (w t s : List ℕ) → StartAlike t s → StartAlike (w ++ t) (w ++ s)
behind_alike [] t s h = h
behind_alike (b ∷ w) t s h = refl

-- a field stays the same with other bytes after it that start like the old ones
run_behind : (s t : List ℕ) → StartAlike t (past s) → (run (run s ++ t) ≡ run s) × (past (run s ++ t) ≡ t)
unfolding run past
run_behind [] t h = rw (none_alike t h) (refl, refl)
run_behind (b ∷ s) t h = test_cases (is_separator b)
    (λ e. rw (at_separator b s e).0 (parted t e (rw (at_separator b s e).1 at h)))
    (λ e.
    let (i, j) = run_behind s t (rw (at_plain b s e).1 at h) in
    rw ((at_plain b s e).0, (at_plain b (run s ++ t) e).0, (at_plain b (run s ++ t) e).1) (ap (λ w. b ∷ w) i, j))
  where
    parted : (t : List ℕ) → is_separator b ≡ true → StartAlike t (b ∷ s) → (run t ≡ []) × (past t ≡ t)
    parted [] e h = (refl, refl)
    parted (c ∷ t) e h = at_separator c t (ap is_separator (let z : c ≡ b = cc in z) ∙ e)

-- the same bytes up to the end of the field in front, and the same byte after it, or the end there
take_field : (s t : List ℕ) → take (suc (length (run s))) t ≡ take (suc (length (run s))) s → FieldAlike t s
unfolding run
take_field [] t h = rw (none_alike t h) (record { same_field = refl; same_start = refl })
take_field (b ∷ s) [] h = absurd (let z : ◌≡◌ {A = ℕ} 0 1 = cc in omega arith)
take_field (b ∷ s) (c ∷ t) h =
    let one : c ≡ b = cc in
    record {
      same_field = test_cases (is_separator b)
          (λ e. rw one ((at_separator b t e).0 ∙ sym (at_separator b s e).0))
          (λ e.
          let later : take (suc (length (run s))) t ≡ take (suc (length (run s))) s = let z = rw (at_plain b s e).0 at h in cc in
          rw one ((at_plain b t e).0 ∙ ap (λ w. b ∷ w) (take_field s t later).same_field ∙ sym (at_plain b s e).0));
      same_start = ap (λ d. d ∷ []) one;
    }

-- ---- readers

-- What was read: the bytes in front, and the place after them. Any text that has these bytes in front, and starts alike after them, is
-- read in the same way.
pub record ReadFront {A : Type 0} (r : Reader A) (s : List ℕ) (at : ℕ) (a : A) (rest : List ℕ) (place : ℕ) : Type 0 where
  pub bytes : List ℕ
  pub whole : s ≡ bytes ++ rest
  pub stands : place ≡ at + length bytes
  pub alike : (t : List ℕ) → StartAlike t rest → r (bytes ++ t) at ≡ read a t place

-- What was refused: the bytes before the place, and those from it on. Any text that has these bytes in front, and after them the
-- same field and the same first byte, is refused in the same way.
pub record TurnedFront {A : Type 0} (r : Reader A) (s : List ℕ) (at number place : ℕ) : Type 0 where
  pub before : List ℕ
  pub rest : List ℕ
  pub whole : s ≡ before ++ rest
  pub stands : place ≡ at + length before
  pub alike : (t : List ℕ) → FieldAlike t rest → r (before ++ t) at ≡ turned_back number place

-- `r` judges from the front
pub record FromFront {A : Type 0} (r : Reader A) : Type 0 where
  pub reads : (s : List ℕ) (at : ℕ) (a : A) (rest : List ℕ) (place : ℕ) → r s at ≡ read a rest place → ReadFront r s at a rest place
  pub turns : (s : List ℕ) (at number place : ℕ) → r s at ≡ turned_back number place → TurnedFront r s at number place

-- a value given without reading
pub front_give : {A : Type 0} (a : A) → FromFront (give a)
front_give a = record {
  reads = λ s at b rest place e. record {
    bytes = [];
    whole = (cc);
    stands = let z : place ≡ at = cc in z ∙ sym (add-zero at);
    alike = λ t h. (cc);
  };
  turns = λ s at number place e. absurd (not_read number place a s at (sym e));
}

-- one reader after another
module _ {A B : Type 0} {r : Reader A} (next : A → Reader B) (first : FromFront r) (then_first : (a : A) → FromFront (next a)) where
  then_reads : (s : List ℕ) (at : ℕ) (b : B) (rest : List ℕ) (place : ℕ) → (r >>= next) s at ≡ read b rest place → ReadFront (r >>= next) s at b rest place
  unfolding then
  then_reads s at b rest place e = read_cases (r s at)
      (λ a middle p d. both a middle p (first.reads s at a middle p d) ((then_first a).reads middle p b rest place (rw d at e)))
      (λ number p d. absurd (not_read number p b rest place (rw d at e)))
    where
      both : (a : A) (middle : List ℕ) (p : ℕ) → ReadFront r s at a middle p → ReadFront (next a) middle p b rest place
          → ReadFront (r >>= next) s at b rest place
      both a middle p f g = record {
        bytes = f.bytes ++ g.bytes;
        whole = f.whole ∙ ap (λ t. f.bytes ++ t) g.whole ∙ sym (append_assoc f.bytes g.bytes rest);
        stands = omega (arith, f.stands, g.stands, length-append f.bytes g.bytes);
        alike = λ t h.
            let i : StartAlike (g.bytes ++ t) middle = behind_alike g.bytes t rest h ∙ sym (ap (take 1) g.whole) in
            rw (append_assoc f.bytes g.bytes t, f.alike (g.bytes ++ t) i) (g.alike t h);
      }

  then_turns : (s : List ℕ) (at number place : ℕ) → (r >>= next) s at ≡ turned_back number place → TurnedFront (r >>= next) s at number place
  unfolding then
  then_turns s at number place e = go (r s at) refl e
    where
      go : (u : Read A) → r s at ≡ u → then u next ≡ turned_back number place → TurnedFront (r >>= next) s at number place
      go (read a middle p) d e =
          let f = first.reads s at a middle p d in
          let g = (then_first a).turns middle p number place e in
          record {
            before = f.bytes ++ g.before;
            rest = g.rest;
            whole = f.whole ∙ ap (λ t. f.bytes ++ t) g.whole ∙ sym (append_assoc f.bytes g.before g.rest);
            stands = omega (arith, f.stands, g.stands, length-append f.bytes g.before);
            alike = λ t h.
                let i : StartAlike (g.before ++ t) middle = behind_alike g.before t g.rest h.same_start ∙ sym (ap (take 1) g.whole) in
                rw (append_assoc f.bytes g.before t, f.alike (g.before ++ t) i) (g.alike t h);
          }
      go (turned_back k p) d e =
          let f = first.turns s at number place (d ∙ let z : ◌≡◌ {A = Read A} (turned_back k p) (turned_back number place) = cc in z) in
          record { before = f.before; rest = f.rest; whole = f.whole; stands = f.stands; alike = λ t h. rw (f.alike t h) refl }

  pub front_then : FromFront (r >>= next)
  front_then = record { reads = then_reads; turns = then_turns }

-- ---- a field

-- the separator that is due was there, ..
separator_read : {A : Type 0} (a : A) (due : ℕ) (s : List ℕ) (end : ℕ) (b : A) (rest : List ℕ) (place : ℕ)
    → separator a due s end ≡ read b rest place
    → (s ≡ due ∷ rest) × (place ≡ suc end) × ((t : List ℕ) → separator a due (due ∷ t) end ≡ read b t place)
unfolding separator
separator_read a due [] end b rest place e = absurd (not_read 1 end b rest place e)
separator_read {A} a due (c ∷ s) end b rest place e = go (eqb c due) refl e
  where
    go : (u : Bool) → eqb c due ≡ u → ◌≡◌ {A = Read A} (elim u [ true ↦ read a s (suc end) | false ↦ turned_back 1 end ]) (read b rest place)
        → (c ∷ s ≡ due ∷ rest) × (place ≡ suc end) × ((t : List ℕ) → separator a due (due ∷ t) end ≡ read b t place)
    go true d e = (ap₂ ◌∷◌ (eqb-true c due d) (cc), (cc), λ t. rw (eq-eqb due due refl, separator) (cc))
    go false d e = absurd (not_read 1 end b rest place e)

-- .. or was not: any text that starts alike lacks it too
pub separator_turned : {A : Type 0} (a : A) (due : ℕ) (s : List ℕ) (end number place : ℕ) → separator a due s end ≡ turned_back number place
    → (place ≡ end) × ((t : List ℕ) → StartAlike t s → separator a due t end ≡ turned_back number place)
unfolding separator
separator_turned a due [] end number place e = ((cc), λ t h. rw (none_alike t h) e)
separator_turned {A} a due (c ∷ s) end number place e = ((go (eqb c due) e).0, alike)
  where
    go : (u : Bool) → ◌≡◌ {A = Read A} (elim u [ true ↦ read a s (suc end) | false ↦ turned_back 1 end ]) (turned_back number place)
        → (place ≡ end) × ((t : List ℕ) → ◌≡◌ {A = Read A} (elim u [ true ↦ read a t (suc end) | false ↦ turned_back 1 end ]) (turned_back number place))
    go true e = absurd (not_read number place a s (suc end) (sym e))
    go false e = ((cc), λ t. e)

    alike : (t : List ℕ) → StartAlike t (c ∷ s) → separator a due t end ≡ turned_back number place
    alike [] h = absurd (let z : ◌≡◌ {A = ℕ} 0 1 = cc in omega arith)
    alike (d ∷ t) h = rw (let z : d ≡ c = cc in z) ((go (eqb c due) e).1 t)

module _ {A : Type 0} (judge : Judge A) (due : ℕ) where
  -- if a field was read, the separator followed it, whatever came after
  pub field_read : (w s : List ℕ) (at : ℕ) (a : A) (rest : List ℕ) (place : ℕ) → field_of judge due w s at ≡ read a rest place
      → (s ≡ due ∷ rest) × (place ≡ suc (at + length w)) × ((t : List ℕ) → field_of judge due w (due ∷ t) at ≡ read a t place)
  unfolding field_of_in after_field_in
  field_read [] s at a rest place e = absurd (not_read 1 at a rest place e)
  field_read (b ∷ w) s at a rest place e = go (judge (b ∷ w)) e
    where
      go : (u : Judged A) → after_field u due s at (at + suc (length w)) ≡ read a rest place
          → (s ≡ due ∷ rest) × (place ≡ suc (at + suc (length w))) × ((t : List ℕ) → after_field u due (due ∷ t) at (at + suc (length w)) ≡ read a t place)
      go (good c) e = separator_read c due s (at + suc (length w)) a rest place e
      go (bad number) e = absurd (not_read number at a rest place e)

  reads_field : (s : List ℕ) (at : ℕ) (a : A) (rest : List ℕ) (place : ℕ) → field judge due s at ≡ read a rest place
      → ReadFront (field judge due) s at a rest place
  unfolding field_in
  reads_field s at a rest place e =
      let (i, j, k) = field_read (run s) (past s) at a rest place e in
      record {
        bytes = run s ++ due ∷ [];
        whole = run_past s ∙ ap (λ t. run s ++ t) i ∙ sym (append_snoc (run s) due rest);
        stands = omega (arith, j, length-append (run s) (due ∷ []));
        alike = λ t h.
            let (l, m) = run_behind s (due ∷ t) (sym (ap (take 1) i)) in
            rw (append_snoc (run s) due t, l, m) (k t);
      }

  -- A field that is empty or judged bad is refused at its first byte, whatever follows it, ..
  turns_field : (s : List ℕ) (at number place : ℕ) → field judge due s at ≡ turned_back number place → TurnedFront (field judge due) s at number place
  unfolding field_in field_of_in after_field_in
  turns_field s at number place e = go (run s) refl e
    where
      here : place ≡ at → ((q : List ℕ) → field_of judge due (run s) q at ≡ turned_back number place) → TurnedFront (field judge due) s at number place
      here d f = record {
        before = [];
        rest = s;
        whole = refl;
        stands = omega arith;
        alike = λ t h. rw h.same_field (f (past t));
      }

      -- .. and a good one at the byte after it
      after : place ≡ at + length (run s) → ((q : List ℕ) → StartAlike q (past s) → field_of judge due (run s) q at ≡ turned_back number place)
          → TurnedFront (field judge due) s at number place
      after d f = record {
        before = run s;
        rest = past s;
        whole = run_past s;
        stands = d;
        alike = λ t h.
            let i = h.same_start in
            let (l, m) = run_behind s t i in
            rw (l, m) (f t i);
      }

      go : (w : List ℕ) → run s ≡ w → field_of judge due w (past s) at ≡ turned_back number place → TurnedFront (field judge due) s at number place
      go [] d e = here (cc) (λ q. rw d e)
      go (b ∷ w) d e = judged_cases (judge (b ∷ w))
          (λ a j.
          let (p, f) = separator_turned a due (past s) (at + suc (length w)) number place (rw j at e) in
          after (p ∙ ap (λ v. at + length v) (sym d)) (λ q h. rw (d, j) (f q h)))
          (λ k j. here (cc) (λ q. rw (d, j) (rw j at e)))

  pub front_field : FromFront (field judge due)
  front_field = record { reads = reads_field; turns = turns_field }

-- ---- the end of a sheet

pub front_closed : FromFront closed
unfolding closed
front_closed = record { reads = reads; turns = turns }
  where
    reads : (s : List ℕ) (at : ℕ) (a : Unit {0}) (rest : List ℕ) (place : ℕ) → closed s at ≡ read a rest place → ReadFront closed s at a rest place
    reads [] at a rest place e =
        let none : rest ≡ [] = cc in
        record {
          bytes = [];
          whole = (cc);
          stands = let z : place ≡ at = cc in z ∙ sym (add-zero at);
          alike = λ t h. rw (none_alike t (h ∙ ap (take 1) none)) (cc);
        }
    reads (b ∷ s) at a rest place e = absurd (not_read 1 at a rest place e)

    turns : (s : List ℕ) (at number place : ℕ) → closed s at ≡ turned_back number place → TurnedFront closed s at number place
    turns [] at number place e = absurd (not_read number place tt [] at (sym e))
    turns (b ∷ s) at number place e = record {
      before = [];
      rest = b ∷ s;
      whole = refl;
      stands = let z : place ≡ at = cc in z ∙ sym (add-zero at);
      alike = λ t h. there t h.same_start;
    }
      where
        there : (t : List ℕ) → StartAlike t (b ∷ s) → closed t at ≡ turned_back number place
        there [] h = absurd (let z : ◌≡◌ {A = ℕ} 0 1 = cc in omega arith)
        there (c ∷ t) h = e

-- ---- where a reader stops

module _ {A : Type 0} {r : Reader A} (front : FromFront r) where
  -- what is left ends where the sheet ends
  pub read_place : (s : List ℕ) (at : ℕ) (a : A) (rest : List ℕ) (place : ℕ) → r s at ≡ read a rest place → place + length rest ≡ at + length s
  read_place s at a rest place e =
      let f = front.reads s at a rest place e in
      omega (arith, f.stands, ap length f.whole ∙ length-append f.bytes rest)

  -- a refusal's place is at most the sheet's end
  pub turned_place : (s : List ℕ) (at number place : ℕ) → r s at ≡ turned_back number place → place ≤ at + length s
  turned_place s at number place e =
      let f = front.turns s at number place e in
      omega (arith, f.stands, ap length f.whole ∙ length-append f.before f.rest)

-- a text that starts with these bytes, and then with some of another text
front_parts : (w t rest : List ℕ) (k : ℕ) → take (length w + k) t ≡ w ++ take k rest → (u : List ℕ) × (t ≡ w ++ u) × (take k u ≡ take k rest)
front_parts [] t rest k h = (t, refl, rw (zero-add k) at h)
front_parts (b ∷ w) [] rest k h = absurd (let e = rw (suc-add (length w) k) at h in let z : ◌≡◌ {A = ℕ} 0 1 = cc in omega arith)
front_parts (b ∷ w) (c ∷ t) rest k h =
    let e = rw (suc-add (length w) k) at h in
    let (u, i, j) = front_parts w t rest k (let z : take (length w + k) t ≡ w ++ take k rest = cc in z) in
    (u, ap₂ ◌∷◌ (let z : c ≡ b = cc in z) i, j)

module _ {A : Type 0} {r : Reader A} (s t : List ℕ) (number place : ℕ) (f : TurnedFront r s 0 number place) where
  before_length : length f.before ≡ place
  before_length = omega (arith, f.stands)

  rest_there : drop place s ≡ f.rest
  rest_there = ap (drop place) f.whole ∙ drop_at f.before f.rest place before_length

  -- a text that agrees up to the place, and in `k` bytes from it on
  agrees : (k : ℕ) → take (place + k) t ≡ take (place + k) s → (t ≡ f.before ++ drop place t) × (take k (drop place t) ≡ take k f.rest)
  agrees k h =
      let (u, i, j) = front_parts f.before t f.rest k
      (ap (λ n. take (n + k) t) before_length ∙ h ∙ ap₂ (λ n u. take (n + k) u) (sym before_length) f.whole ∙ take-append-add f.before f.rest k) in
      rw (ap (drop place) i ∙ drop_at f.before u place before_length) (i, j)

  agree_alike : take (suc place) t ≡ take (suc place) s → run (drop place t) ≡ run (drop place s) → r t 0 ≡ turned_back number place
  agree_alike h k =
      let (i, j) = agrees 1 (rw add-one h) in
      rw i (f.alike (drop place t) (record { same_field = k ∙ ap run rest_there; same_start = j }))

  through_alike : take (suc (field_end s place)) t ≡ take (suc (field_end s place)) s → r t 0 ≡ turned_back number place
  unfolding field_end
  through_alike h =
      let (i, j) = agrees (suc (length (run f.rest))) (rw (add-suc, ← rest_there) h) in
      rw i (f.alike (drop place t) (take_field f.rest (drop place t) j))

module _ {A : Type 0} {r : Reader A} (front : FromFront r) (s t : List ℕ) (number place : ℕ) (back : r s 0 ≡ turned_back number place) where
  -- Two texts that agree up to a refusal's place, in the byte and in the field there, are refused in the same way, ..
  pub turned_alike : take (suc place) t ≡ take (suc place) s → run (drop place t) ≡ run (drop place s) → r t 0 ≡ turned_back number place
  turned_alike = agree_alike s t number place (front.turns s 0 number place back)

  -- .. and so are two that agree up to the end of that field and in the byte after it.
  pub turned_through : take (suc (field_end s place)) t ≡ take (suc (field_end s place)) s → r t 0 ≡ turned_back number place
  turned_through = through_alike s t number place (front.turns s 0 number place back)
