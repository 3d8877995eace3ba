-- The levels field, by its byte; the inputs field, by the number whose decimal value it is.
-- Assumes nothing.
use Rattle.std.specs.Prelude.{◌<◌, ◌≤◌, ◌+◌, ◌-◌, ◌^◌, ◌≡◌, ◌∷◌, Option, Some, None}
use Rattle.laws.specs.Prelude.{ℕ, ◌∙◌, sym, ap, refl, and-false, List, [], arith, length, get_or, lt-ltb, le-ltb, le-leb}
use Rattle.laws.specs.Prelude.{lt-leb}
use Rattle.std.proofs.Math.Option.{some}
use Rattle.rules.specs.Text.{is_digit, zero_byte}
use Rattle.rules.specs.Limits.{levels_fit, fewest_inputs, most_inputs, cells_fit_of, most_cells, fewest_levels, most_levels}
use Rattle.rules.specs.Sheets.Fields.{good, bad}
use Rattle.rules.specs.Sheets.Sheets.{levels_field, inputs_of, inputs_field}
use Rattle.laws.specs.Lists.Finds.{found_is, first_in_range}
use Rattle.fields.specs.Steps.{option_of}
use Rattle.laws.specs.Lists.Places.{one_byte}

pub levels_long : (w : List ℕ) → (length w ≡ 1 → ⊥) → bad 2 ≡ levels_field w
unfolding levels_field
levels_long [] h = refl
levels_long (b ∷ []) h = absurd (h refl)
levels_long (b ∷ d ∷ w) h = refl

module _ (w : List ℕ) (e : length w ≡ 1) where
  pub levels_low : get_or w 0 0 < zero_byte + fewest_levels → bad 2 ≡ levels_field w
  unfolding levels_field is_digit levels_fit
  levels_low h = rw (one_byte w e) (simp (lt-leb fewest_levels (get_or w 0 0 - zero_byte) (omega arith), and-false))

  pub levels_high : zero_byte + most_levels < get_or w 0 0 → bad 2 ≡ levels_field w
  unfolding levels_field is_digit levels_fit
  levels_high h = rw (one_byte w e) (simp (le-ltb (get_or w 0 0) (zero_byte + 10) (omega arith), and-false))

  pub levels_good : zero_byte + fewest_levels ≤ get_or w 0 0 → get_or w 0 0 ≤ zero_byte + most_levels → good (get_or w 0 0 - zero_byte) ≡ levels_field w
  unfolding levels_field is_digit levels_fit
  levels_good h k =
      let b = get_or w 0 0 in
      rw (one_byte w e) (simp (
        le-leb zero_byte b (omega arith),
        lt-ltb b (zero_byte + 10) (omega arith),
        le-leb fewest_levels (b - zero_byte) (omega arith),
        le-leb (b - zero_byte) most_levels (omega arith),
      ))

inputs_range : (w : List ℕ) (n : ℕ) → inputs_of w ≡ some n → (fewest_inputs ≤ n) × (n ≤ most_inputs)
unfolding inputs_of
inputs_range w n e = let f = found_is (first_in_range _ fewest_inputs (most_inputs + 1 - fewest_inputs)) n e in (f.0, omega (arith, f.1))

pub inputs_none : (w : List ℕ) (m : ℕ) (r : Option ℕ) → option_of r ≡ inputs_of w → r ≡ None → bad 3 ≡ inputs_field m w
unfolding inputs_field
inputs_none w m r e q = rw (sym e ∙ ap option_of q, inputs_field)

module _ (w : List ℕ) (m n p : ℕ) (r : Option ℕ) (e : option_of r ≡ inputs_of w) (q : r ≡ Some n) where
  inputs_are : inputs_of w ≡ some n
  inputs_are = sym e ∙ ap option_of q

  pub inputs_most : n ≤ most_inputs
  inputs_most = (inputs_range w n inputs_are).1

  pub field_inputs_fit : p ≡ m ^ n → p ≤ most_cells → good n ≡ inputs_field m w
  unfolding inputs_field cells_fit_of
  field_inputs_fit s h = rw (inputs_are, inputs_field) (rw (← s, le-leb p most_cells h) refl)

  pub inputs_over : p ≡ m ^ n → most_cells < p → bad 3 ≡ inputs_field m w
  unfolding inputs_field cells_fit_of
  inputs_over s h = rw (inputs_are, inputs_field) (rw (← s, lt-leb p most_cells h) refl)
