-- What follows from a field that was read: its value is good, and the next place is after its separator (in a strict sheet directly after it).
-- Assumes nothing.
use Rattle.std.specs.Prelude.{◌<◌, ◌≤◌, ◌+◌, ◌-◌, ◌≡◌, ◌&&◌, ◌∷◌, Ok}
use Rattle.laws.specs.Prelude.{ℕ, suc, ◌∙◌, sym, ap, refl, true, false, Bool, and-eq-true_iff, List, [], arith, eqb}
use Rattle.laws.specs.Prelude.{length, drop, length-append, length-drop}
use Rattle.std.proofs.Math.Option.{Option, none, some}
use Rattle.rules.specs.Lists.{same}
use Rattle.rules.specs.Text.{space, is_digit, decimal, zero_byte}
use Rattle.rules.specs.Limits.{levels_fit, cells_fit_of, fewest_inputs, most_inputs}
use Rattle.rules.specs.Sheets.Fields.{Read, read, turned_back, Judge, Judged, good, bad, judged, then, separator, spaces, loose_separator, separator_in}
use Rattle.rules.specs.Sheets.Fields.{after_field_in, field_of_in, field, field_in, run, past, past_spaces, spaces_in, Layout, strict, loose}
use Rattle.rules.specs.Sheets.Sheets.{levels_field, inputs_of, inputs_field}
use Rattle.laws.specs.Lists.Finds.{found_is, first_in_range}
use Rattle.laws.specs.Lists.Runs.{run_past, spaces_rest, spaces_most}
use Rattle.fields.specs.Steps.{Step, step_as, itself}
use Rattle.fields.specs.declared.steps.Field.{Field}

separator_read : {A : Type 0} (a v : A) (due : ℕ) (t rest : List ℕ) (place next : ℕ)
    → separator a due t place ≡ read v rest next → (v ≡ a) × (next ≡ suc place) × (0 < length t)
unfolding separator
separator_read a v due [] rest place next e = let z : ◌≡◌ {A = ℕ} 0 1 = cc in absurd (omega arith)
separator_read {A} a v due (b ∷ t) rest place next e = go (eqb b due) e
  where
    go : (test : Bool) → ◌≡◌ {A = Read A} (elim test [ true ↦ read a t (suc place) | false ↦ turned_back 1 place ]) (read v rest next)
        → (v ≡ a) × (next ≡ suc place) × (0 < length (b ∷ t))
    go true q = (cc, cc, omega arith)
    go false q = let z : ◌≡◌ {A = ℕ} 0 1 = cc in absurd (omega arith)

-- the separator of a loose sheet: at least one byte
then_spaces : {A : Type 0} (x : Read A) (v : A) (rest : List ℕ) (next : ℕ) → then x spaces ≡ read v rest next
    → (t : List ℕ) × (p : ℕ) × (x ≡ read v t p) × (next ≡ p + spaces_in t)
unfolding then spaces
then_spaces (read a t p) v rest next e = let same_value : a ≡ v = cc in (t, p, ap (λ b. read b t p) same_value, (cc))
then_spaces (turned_back number place) v rest next e = let z : ◌≡◌ {A = ℕ} 0 1 = cc in absurd (omega arith)

separator_rest : {A : Type 0} (a v : A) (due : ℕ) (t rest : List ℕ) (place next : ℕ) → separator a due t place ≡ read v rest next → length t ≡ suc (length rest)
unfolding separator
separator_rest a v due [] rest place next e = let z : ◌≡◌ {A = ℕ} 0 1 = cc in absurd (omega arith)
separator_rest {A} a v due (b ∷ t) rest place next e = go (eqb b due) e
  where
    go : (test : Bool) → ◌≡◌ {A = Read A} (elim test [ true ↦ read a t (suc place) | false ↦ turned_back 1 place ]) (read v rest next)
        → length (b ∷ t) ≡ suc (length rest)
    go true q = let same_rest : t ≡ rest = cc in ap (λ u. suc (length u)) same_rest
    go false q = let z : ◌≡◌ {A = ℕ} 0 1 = cc in absurd (omega arith)

loose_read : {A : Type 0} (a v : A) (due : ℕ) (t rest : List ℕ) (place next : ℕ)
    → loose_separator a due t place ≡ read v rest next → (v ≡ a) × (place < next) × (next ≤ place + length t)
unfolding loose_separator then spaces
loose_read {A} a v due t rest place next e = go (eqb due space) e
  where
    go : (test : Bool)
        → ◌≡◌ {A = Read A} (elim test [ true ↦ then (separator a due t place) spaces | false ↦ then (spaces a t place) (λ a. separator a due) ])
        (read v rest next)
        → (v ≡ a) × (place < next) × (next ≤ place + length t)
    go true q =
        let (u, p, one, more) = then_spaces (separator a due t place) v rest next q in
        let told = separator_read a v due t u place p one in
        (told.0, omega (arith, told.1, more), omega (arith, told.1, more, separator_rest a v due t u place p one, spaces_most u))
    go false q =
        let told = separator_read a v due (past_spaces t) rest (place + spaces_in t) next q in
        let left : length (past_spaces t) ≡ length t - spaces_in t = ap length (sym (spaces_rest t)) ∙ length-drop (spaces_in t) t in
        (told.0, omega (arith, told.1), omega (arith, told.1, told.2, left, spaces_most t))

-- in either layout
parted_read : (layout : Layout) {A : Type 0} (a v : A) (due : ℕ) (t rest : List ℕ) (place next : ℕ)
    → separator_in layout a due t place ≡ read v rest next → (v ≡ a) × (place < next) × (next ≤ place + length t)
parted_read strict a v due t rest place next e =
    let told = separator_read a v due t rest place next e in (told.0, omega (arith, told.1), omega (arith, told.1, told.2))
parted_read loose a v due t rest place next e = loose_read a v due t rest place next e

-- the verdict, and the separator after the field
after_read : (layout : Layout) {A : Type 0} (j : Judged A) (a : A) (due : ℕ) (t rest : List ℕ) (at end next : ℕ)
    → after_field_in layout j due t at end ≡ read a rest next → (x : A) × (j ≡ good x) × (separator_in layout x due t end ≡ read a rest next)
unfolding after_field_in
after_read layout (good x) a due t rest at end next e = (x, refl, e)
after_read layout (bad number) a due t rest at end next e = let z : ◌≡◌ {A = ℕ} 0 1 = cc in absurd (omega arith)

of_read : (layout : Layout) {A : Type 0} (judge : Judge A) (a : A) (due : ℕ) (w t rest : List ℕ) (at next : ℕ)
    → field_of_in layout judge due w t at ≡ read a rest next → (x : A) × (judge w ≡ good x) × (separator_in layout x due t (at + length w) ≡ read a rest next)
unfolding field_of_in
of_read layout judge a due [] t rest at next e = let z : ◌≡◌ {A = ℕ} 0 1 = cc in absurd (omega arith)
of_read layout judge a due (b ∷ w) t rest at next e = after_read layout (judge (b ∷ w)) a due t rest at (at + suc (length w)) next e

pub field_read_in : (layout : Layout) {A : Type 0} (judge : Judge A) (a : A) (due : ℕ) (t rest : List ℕ) (at next : ℕ)
    → field_in layout judge due t at ≡ read a rest next → (judge (run t) ≡ good a) × (at + length (run t) < next) × (next ≤ at + length t)
unfolding field_in
field_read_in layout judge a due t rest at next e =
    let (x, good_x, sep) = of_read layout judge a due (run t) (past t) rest at next e in
    let told = parted_read layout x a due (past t) rest (at + length (run t)) next sep in
    (good_x ∙ ap good (sym told.0), told.1, omega (arith, told.2, simp length-append at (ap length (run_past t))))

-- in a strict sheet the next place is directly after the separator
pub taken_field_read : {A : Type 0} (judge : Judge A) (a : A) (due : ℕ) (t rest : List ℕ) (at next : ℕ)
    → field judge due t at ≡ read a rest next → (judge (run t) ≡ good a) × (next ≡ at + length (run t) + 1) × (next ≤ at + length t)
unfolding field_in
taken_field_read judge a due t rest at next e =
    let (x, good_x, sep) = of_read strict judge a due (run t) (past t) rest at next e in
    let told = separator_read x a due (past t) rest (at + length (run t)) next sep in
    (good_x ∙ ap good (sym told.0), omega (arith, told.1), omega (arith, told.1, told.2, simp length-append at (ap length (run_past t))))

pub field_judged_good : {A : Type 0} (t : Bool) (x a : A) (number : ℕ) → judged t x number ≡ good a → (t ≡ true) × (x ≡ a)
field_judged_good true x a number e = (refl, cc)
field_judged_good false x a number e = let z : ◌≡◌ {A = ℕ} 0 1 = cc in absurd (omega arith)

levels_told : (w : List ℕ) (m : ℕ) → levels_field w ≡ good m → levels_fit m ≡ true
unfolding levels_field
levels_told [] m e = let z : ◌≡◌ {A = ℕ} 0 1 = cc in absurd (omega arith)
levels_told (b ∷ []) m e =
    let told = field_judged_good (is_digit 10 b && levels_fit (b - zero_byte)) (b - zero_byte) m 2 e in
    rw told.1 at ((and-eq-true_iff (is_digit 10 b) (levels_fit (b - zero_byte))).0 told.0).1
levels_told (b ∷ d ∷ w) m e = let z : ◌≡◌ {A = ℕ} 0 1 = cc in absurd (omega arith)

inputs_found : (w : List ℕ) (n : ℕ) → inputs_of w ≡ some n → (fewest_inputs ≤ n) × (n ≤ most_inputs)
unfolding inputs_of
inputs_found w n e =
    let found = found_is (first_in_range (λ k. same w (decimal k)) fewest_inputs (most_inputs + 1 - fewest_inputs)) n e in
    (found.0, omega (arith, found.1))

inputs_told : (m n : ℕ) (w : List ℕ) → inputs_field m w ≡ good n → (fewest_inputs ≤ n) × (n ≤ most_inputs) × (cells_fit_of m n ≡ true)
unfolding inputs_field
inputs_told m n w e = go (inputs_of w) refl e
  where
    go : (o : Option ℕ) → inputs_of w ≡ o → ◌≡◌ {A = Judged ℕ} (elim o [ none ↦ bad 3 | some k ↦ judged (cells_fit_of m k) k 3 ]) (good n)
        → (fewest_inputs ≤ n) × (n ≤ most_inputs) × (cells_fit_of m n ≡ true)
    go none q h = let z : ◌≡◌ {A = ℕ} 0 1 = cc in absurd (omega arith)
    go (some k) q h =
        let told = field_judged_good (cells_fit_of m k) k n 3 h in
        let found = inputs_found w k q in
        (rw told.1 at found.0, rw told.1 at found.1, rw told.1 at told.0)

-- ---- the same for a step `On`

-- in a strict sheet
pub record Taken {A : Type 0} (judge : Judge A) (a : A) (s : List ℕ) (at next : ℕ) : Type 0 where
  pub judged : judge (run (drop at s)) ≡ good a
  pub ends : next ≡ at + length (run (drop at s)) + 1
  pub within : next ≤ length s

-- in either layout
pub record TakenIn {A : Type 0} (judge : Judge A) (a : A) (s : List ℕ) (at next : ℕ) : Type 0 where
  pub judged : judge (run (drop at s)) ≡ good a
  pub beyond : at + length (run (drop at s)) < next
  pub within : next ≤ length s

module _ (s : List ℕ) (step : Step) (at : ℕ) (found : Field) (on : step ≡ Ok found) where
  pub field_on : {A : Type 0} (f : ℕ → A) (judge : Judge A) (due : ℕ) → step_as f s step ≡ field judge due (drop at s) at → Taken judge (f found.value) s at found.next
  field_on f judge due e =
      let told = taken_field_read judge (f found.value) due (drop at s) (drop found.next s) at found.next (sym e ∙ ap (step_as f s) on) in
      record { judged = told.0; ends = told.1; within = omega (arith, told.1, rw length-drop at told.2) }

  pub field_on_in : (layout : Layout) {A : Type 0} (f : ℕ → A) (judge : Judge A) (due : ℕ) → step_as f s step ≡ field_in layout judge due (drop at s) at
      → TakenIn judge (f found.value) s at found.next
  field_on_in layout f judge due e =
      let told = field_read_in layout judge (f found.value) due (drop at s) (drop found.next s) at found.next (sym e ∙ ap (step_as f s) on) in
      record { judged = told.0; beyond = told.1; within = omega (arith, told.1, rw length-drop at told.2) }

  pub levels_on : (layout : Layout) (due : ℕ) → step_as itself s step ≡ field_in layout levels_field due (drop at s) at → levels_fit found.value ≡ true
  levels_on layout due e = levels_told (run (drop at s)) found.value (field_on_in layout itself levels_field due e).judged

  pub inputs_on : (layout : Layout) (m due : ℕ) → step_as itself s step ≡ field_in layout (inputs_field m) due (drop at s) at
      → (fewest_inputs ≤ found.value) × (found.value ≤ most_inputs) × (cells_fit_of m found.value ≡ true)
  inputs_on layout m due e = inputs_told m found.value (run (drop at s)) (field_on_in layout itself (inputs_field m) due e).judged
