-- The forms have room for every net within a sheet's bounds: one test over all sizes, computed.
-- Assumes nothing.
use Rattle.std.specs.Prelude.{◌<◌, ◌≤◌, ◌+◌, ◌-◌, ◌*◌, ◌≡◌, ◌||◌}
use Rattle.laws.specs.Prelude.{ℕ, refl, true, Bool, not, mul-le-mul_right, le_trans, arith, leb, leb-true}
use Rattle.rules.specs.Lists.{range, all}
use Rattle.rules.specs.Limits.{most_inputs, levels_fit, inputs_fit, cells_fit_of, size_fits}
use Rattle.laws.specs.Numbers.Sizes.{sized, every_size, at_size}

-- the most gates of a net
abbrev pub most_gates : ℕ
most_gates = most_inputs - 1

-- the most inputs and gates of a net together
abbrev pub most_wires : ℕ
most_wires = most_inputs + most_gates

-- the most digits of all gates of a net
abbrev pub most_digits : ℕ
most_digits = 192

-- there is room for the digits, unless m levels and n inputs are too many
has_room_of : ℕ → ℕ → Bool
has_room_of m n = not (size_fits m n) || leb ((n - 1) * (m * m)) most_digits

all_sizes : every_size has_room_of ≡ true
unfolding every_size all range has_room_of size_fits levels_fit inputs_fit cells_fit_of
all_sizes = refl

-- there is room for all digits
pub digits_room : (m n : ℕ) → size_fits m n ≡ true → (n - 1) * (m * m) ≤ most_digits
unfolding has_room_of
digits_room m n fits = leb-true _ _ (rw fits at (at_size has_room_of all_sizes m n (sized m n fits)))

-- there is room for the digits of the gate with k gates before it, and for all digits before these
pub gate_room : (m n : ℕ) → size_fits m n ≡ true → (k : ℕ) → k < n - 1 → (k + 1) * (m * m) ≤ most_digits
gate_room m n fits k below = le_trans (mul-le-mul_right (m * m) (omega arith)) (digits_room m n fits)
