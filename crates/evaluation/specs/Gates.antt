-- One gate at many assignments: what is required, what is promised, and what a turn reads.
-- Assumes nothing.
use Rattle.std.specs.Prelude.{◌<◌, ◌≤◌, ◌+◌, ◌*◌, ◌≡◌}
use Rattle.laws.specs.Prelude.{ℕ, List, arith, length, get_or, digits_lt}
use Rattle.evaluation.specs.Lists.Runs.{Run}

-- the gate's digits are inside `digits`; the levels of its left and right are below m and come before `to`, where its values will go
pub record GateReady (m : ℕ) (digits : List ℕ) (from left right to count : ℕ) (wires : List ℕ) : Type 0 where
  pub digits_there : from + m * m ≤ length digits
  pub left_there : left + count ≤ to
  pub right_there : right + count ≤ to
  pub room : to + count ≤ length wires
  pub left_levels : (p : ℕ) → p < count → get_or wires (left + p) 0 < m
  pub right_levels : (p : ℕ) → p < count → get_or wires (right + p) 0 < m

-- the gate's digit for the levels at left + p and right + p
abbrev pub digit_at_of : ℕ → List ℕ → ℕ → ℕ → ℕ → List ℕ → ℕ → ℕ
digit_at_of m digits from left right wires p = get_or digits (from + get_or wires (left + p) 0 * m + get_or wires (right + p) 0) 0

-- the gate has its first `count` values
abbrev pub GateDone : ℕ → List ℕ → ℕ → ℕ → ℕ → ℕ → ℕ → List ℕ → List ℕ → Type 0
GateDone m digits from left right to count before after = Run to count (digit_at_of m digits from left right before) before after

module _ (m : ℕ) (digits : List ℕ) (from left right to count : ℕ) (before : List ℕ) (ready : GateReady m digits from left right to count before)
    (p : ℕ) (after : List ℕ) (done : GateDone m digits from left right to p before after) (turn : p < count) where
  -- what a turn reads: a level of the left, one of the right, a digit
  left_read : get_or after (left + p) 0 ≡ get_or before (left + p) 0
  left_read = done.front (left + p) (omega (arith, ready.left_there))

  right_read : get_or after (right + p) 0 ≡ get_or before (right + p) 0
  right_read = done.front (right + p) (omega (arith, ready.right_there))

  pub digit_there : from + get_or after (left + p) 0 * m + get_or after (right + p) 0 < length digits
  digit_there =
      rw (left_read, right_read)
      (omega (arith, ready.digits_there, digits_lt (ready.left_levels p turn) (ready.right_levels p turn)))

  pub digit_read : digit_at_of m digits from left right after p ≡ digit_at_of m digits from left right before p
  digit_read i = get_or digits (from + left_read i * m + right_read i) 0

  -- both levels are below m
  pub read_below : (get_or after (left + p) 0 < m) × (get_or after (right + p) 0 < m)
  read_below = (rw left_read (ready.left_levels p turn), rw right_read (ready.right_levels p turn))
