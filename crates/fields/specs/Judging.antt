-- A field that was judged, with the separator after it.
-- Assumes nothing.
use Rattle.std.specs.Prelude.{◌<◌, ◌≤◌, ◌+◌, ◌≡◌, ◌∷◌, Ok, Err}
use Rattle.laws.specs.Prelude.{ℕ, suc, ◌∙◌, sym, ap, refl, true, false, Bool, List, [], add-one, arith, eqb, length, get_or, drop}
use Rattle.laws.specs.Prelude.{drop_of_length-le, drop-cons, drop-drop, eq-eqb, ne_eqb}
use Rattle.rules.specs.Sheets.Fields.{Read, read, turned_back, Judge, judged, separator, spaces, loose_separator, separator_in, after_field_in, field_of_in}
use Rattle.rules.specs.Sheets.Fields.{field, field_in, run, past, then, past_spaces, spaces_in, Layout, strict, loose}
use Rattle.rules.specs.Text.{space, space_byte}
use Rattle.laws.specs.Lists.Runs.{run_rest}
use Rattle.fields.specs.Runs.{spaces_end, spaces_past}
use Rattle.answers.specs.Kinds.{number_of}
use Rattle.answers.specs.declared.refusal.Kind.{Kind}
use Rattle.answers.specs.declared.refusal.Refusal.{Refusal}
use Rattle.fields.specs.declared.steps.Field.{Field}
use Rattle.fields.specs.Steps.{Step, Verdict, tested, judged_as, judged_field, judged_field_in, step_as, itself}

-- ---- the byte after a field

module _ (s : List ℕ) (end value due : ℕ) where
  pub separator_due : end < length s → get_or s end 0 ≡ due → read value (drop (end + 1) s) (end + 1) ≡ separator value due (drop end s) end
  unfolding separator
  separator_due h e = rw (add-one, drop-cons s end 0, eq-eqb _ _ e, separator)

  pub separator_other : end < length s → (get_or s end 0 ≡ due → ⊥) → turned_back 1 end ≡ separator value due (drop end s) end
  unfolding separator
  separator_other h e = rw (drop-cons s end 0, ne_eqb _ _ e, separator)

  pub separator_missing : length s ≤ end → turned_back 1 end ≡ separator value due (drop end s) end
  unfolding separator
  separator_missing h = rw (drop_of_length-le s h)

-- ---- the separator after a field of a loose sheet

module _ (s : List ℕ) (end value due : ℕ) where
  pub loose_line_end : (r : Step) → (due ≡ space_byte → ⊥) → step_as itself s r ≡ separator value due (drop (spaces_end s end) s) (spaces_end s end)
      → step_as itself s r ≡ loose_separator value due (drop end s) end
  unfolding loose_separator spaces then space spaces_end
  loose_line_end r e reads = rw (ne_eqb due space_byte e, loose_separator) (reads ∙ ap (λ t. separator value due t (spaces_end s end)) (spaces_past s end))

  module _ (step : Step) (e : due ≡ space_byte) (reads : step_as itself s step ≡ separator value due (drop end s) end) where
    pub field_loose_back : (r : Refusal) → step ≡ Err r → turned_back (number_of r.kind) r.place ≡ loose_separator value due (drop end s) end
    unfolding loose_separator then space
    field_loose_back r q = rw (eq-eqb due space_byte e, loose_separator, ← reads, q) refl

    pub loose_space : (field : Field) → step ≡ Ok field
        → read field.value (drop (spaces_end s field.next) s) (spaces_end s field.next) ≡ loose_separator value due (drop end s) end
    unfolding loose_separator then space spaces spaces_end
    loose_space field q =
        rw (eq-eqb due space_byte e, loose_separator, ← reads, q) (ap (λ t. read field.value t (spaces_end s field.next)) (spaces_past s field.next))

-- ---- the field w at `at`, with the verdict v

module _ (layout : Layout) (s : List ℕ) (at : ℕ) (w : List ℕ) (v : Verdict) (due : ℕ) (is : w ≡ run (drop at s)) where
  pub after_empty : length w ≡ 0 → turned_back 1 at ≡ judged_field_in layout v due s at
  unfolding judged_field_in field_in field_of_in
  after_empty e = rw (← is) (go w e)
    where
      go : (w : List ℕ) → length w ≡ 0 → turned_back 1 at ≡ field_of_in layout (λ _. judged_as itself v) due w (past (drop at s)) at
      go [] e = refl
      go (b ∷ w) e = absurd (omega arith)

  module _ (some : length w ≡ 0 → ⊥) where
    full : judged_field_in layout v due s at ≡ after_field_in layout (judged_as itself v) due (past (drop at s)) at (at + length w)
    unfolding judged_field_in field_in field_of_in
    full = rw (← is) (go w some)
      where
        go : (w : List ℕ) → (length w ≡ 0 → ⊥)
            → field_of_in layout (λ _. judged_as itself v) due w (past (drop at s)) at ≡ after_field_in layout (judged_as itself v) due (past (drop at s)) at
            (at + length w)
        go [] h = absurd (h refl)
        go (b ∷ w) h = refl

    pub after_bad : (kind : Kind) → v ≡ Err kind → turned_back (number_of kind) at ≡ judged_field_in layout v due s at
    unfolding after_field_in
    after_bad kind e = rw (full, e) refl

    pub after_good : (value : ℕ) (r : Step) → v ≡ Ok value → step_as itself s r ≡ separator_in layout value due (drop (at + length w) s) (at + length w)
        → step_as itself s r ≡ judged_field_in layout v due s at
    unfolding after_field_in
    after_good value r e reads = rw (full, e) (reads ∙ ap (λ t. separator_in layout value due t (at + length w)) rest)
      where
        rest : drop (at + length w) s ≡ past (drop at s)
        rest = sym (drop-drop (length w) at s) ∙ (ap (λ u. drop (length u) (drop at s)) is ∙ run_rest (drop at s))

-- ---- the judge's verdict on the field's bytes

module _ {A : Type 0} (f : ℕ → A) where
  mapped : Read ℕ → Read A
  mapped (read a rest place) = read (f a) rest place
  mapped (turned_back number place) = turned_back number place

  step_mapped : (s : List ℕ) (r : Step) → step_as f s r ≡ mapped (step_as itself s r)
  unfolding mapped
  step_mapped s (Ok field) = refl
  step_mapped s (Err e) = refl

  separator_mapped : (a due : ℕ) (rest : List ℕ) (place : ℕ) → mapped (separator a due rest place) ≡ separator (f a) due rest place
  unfolding mapped separator
  separator_mapped a due [] place = refl
  separator_mapped a due (b ∷ rest) place = go (eqb b due)
    where
      go : (t : Bool)
          → mapped (elim t [ true ↦ read a rest (suc place) | false ↦ turned_back 1 place ])
          ≡ elim t [ true ↦ read (f a) rest (suc place) | false ↦ turned_back 1 place ]
      go true = refl
      go false = refl

  spaces_mapped : (x : Read ℕ) → mapped (then x spaces) ≡ then (mapped x) spaces
  unfolding mapped then spaces
  spaces_mapped (read a rest place) = refl
  spaces_mapped (turned_back number place) = refl

  loose_mapped : (a due : ℕ) (rest : List ℕ) (place : ℕ) → mapped (loose_separator a due rest place) ≡ loose_separator (f a) due rest place
  unfolding loose_separator then spaces
  loose_mapped a due rest place = go (eqb due space)
    where
      go : (t : Bool)
          → mapped (elim t [ true ↦ then (separator a due rest place) spaces | false ↦ then (spaces a rest place) (λ a. separator a due) ])
          ≡ elim t [ true ↦ then (separator (f a) due rest place) spaces | false ↦ then (spaces (f a) rest place) (λ a. separator a due) ]
      go true = spaces_mapped (separator a due rest place) ∙ ap (λ x. then x spaces) (separator_mapped a due rest place)
      go false = separator_mapped a due (past_spaces rest) (place + spaces_in rest)

  parted_mapped : (layout : Layout) (a due : ℕ) (rest : List ℕ) (place : ℕ)
      → mapped (separator_in layout a due rest place) ≡ separator_in layout (f a) due rest place
  parted_mapped strict = separator_mapped
  parted_mapped loose = loose_mapped

  field_mapped : (layout : Layout) (judge : Judge A) (v : Verdict) (due : ℕ) (w rest : List ℕ) (at : ℕ) → judged_as f v ≡ judge w
      → mapped (field_of_in layout (λ _. judged_as itself v) due w rest at) ≡ field_of_in layout judge due w rest at
  unfolding mapped field_of_in after_field_in
  field_mapped layout judge v due [] rest at e = refl
  field_mapped layout judge (Ok value) due (b ∷ w) rest at e =
      parted_mapped layout value due rest (at + suc (length w)) ∙ ap (λ j. after_field_in layout j due rest at (at + suc (length w))) e
  field_mapped layout judge (Err kind) due (b ∷ w) rest at e = ap (λ j. after_field_in layout j due rest at (at + suc (length w))) e

  pub field_judged_in : (layout : Layout) (judge : Judge A) (due : ℕ) (s : List ℕ) (at : ℕ) (w : List ℕ) (v : Verdict) (r : Step) → w ≡ run (drop at s)
      → judged_as f v ≡ judge w → step_as itself s r ≡ judged_field_in layout v due s at → step_as f s r ≡ field_in layout judge due (drop at s) at
  unfolding judged_field_in field_in
  field_judged_in layout judge due s at w v r is judges after =
      step_mapped s r ∙ (ap mapped after ∙ field_mapped layout judge v due (run (drop at s)) (past (drop at s)) at (judges ∙ ap judge is))

  -- the same when the judge is a test
  pub field_tested_in : (layout : Layout) (judge : Judge A) (due : ℕ) (s : List ℕ) (at : ℕ) (w : List ℕ) (test : Bool) (value : ℕ) (kind : Kind) (v : Verdict)
      (r : Step)
      → w ≡ run (drop at s) → v ≡ tested test value kind → judged test (f value) (number_of kind) ≡ judge w → step_as itself s r ≡ judged_field_in layout v due s at
      → step_as f s r ≡ field_in layout judge due (drop at s) at
  unfolding tested
  field_tested_in layout judge due s at w test value kind v r is e judges after =
      field_judged_in layout judge due s at w v r is (ap (judged_as f) e ∙ (as_judged test ∙ judges)) after
    where
      as_judged : (t : Bool) → judged_as f (tested t value kind) ≡ judged t (f value) (number_of kind)
      as_judged true = refl
      as_judged false = refl

  -- both in a strict sheet
  pub field_judged : (judge : Judge A) (due : ℕ) (s : List ℕ) (at : ℕ) (w : List ℕ) (v : Verdict) (r : Step) → w ≡ run (drop at s)
      → judged_as f v ≡ judge w → step_as itself s r ≡ judged_field v due s at → step_as f s r ≡ field judge due (drop at s) at
  field_judged = field_judged_in strict

  pub field_tested : (judge : Judge A) (due : ℕ) (s : List ℕ) (at : ℕ) (w : List ℕ) (test : Bool) (value : ℕ) (kind : Kind) (v : Verdict) (r : Step)
      → w ≡ run (drop at s) → v ≡ tested test value kind → judged test (f value) (number_of kind) ≡ judge w → step_as itself s r ≡ judged_field v due s at
      → step_as f s r ≡ field judge due (drop at s) at
  field_tested = field_tested_in strict
