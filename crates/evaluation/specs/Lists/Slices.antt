-- A part of a list, as a loop over a slice reads it: its length, and what is at each place.
-- Assumes nothing.
use Rattle.std.specs.Prelude.{◌<◌, ◌≤◌, ◌+◌, ◌-◌, ◌≡◌}
use Rattle.laws.specs.Prelude.{ℕ, ◌∙◌, List, arith, length, get_or, take, drop, length-take, length-drop, get_or-take, get_or-drop}

pub slice_length : (xs : List ℕ) (from count : ℕ) → from + count ≤ length xs → length (take (from + count - from) (drop from xs)) ≡ count
slice_length xs from count there = omega (arith, length-take (from + count - from) (drop from xs), length-drop from xs)

-- a place of the slice is one of `count`
pub slice_turn : (xs : List ℕ) (from count i : ℕ) → i < length (take (from + count - from) (drop from xs)) → i < count
slice_turn xs from count i turn = omega (arith, length-take (from + count - from) (drop from xs))

pub slice_at : (xs : List ℕ) (from count i : ℕ) → i < count → get_or (take (from + count - from) (drop from xs)) i 0 ≡ get_or xs (from + i) 0
slice_at xs from count i turn = get_or-take _ (drop from xs) i 0 (omega arith) ∙ get_or-drop from xs i 0
