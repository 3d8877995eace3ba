-- Assignments that cover a group, extended to a group with more members.
-- Assumes nothing.
use Rattle.std.specs.Prelude.{◌<◌, ◌≤◌, ◌-◌, ◌^◌, ◌*◌, ◌≡◌}
use Rattle.laws.specs.Prelude.{ℕ, true, List, length, get_or}
use Rattle.rules.specs.Groups.Groups.{size, part}
use Rattle.rules.specs.Groups.Marks.{inside}
use Rattle.trees.specs.Groups.Covers.{Covers}
use Rattle.radix.specs.Weights.{Weights}
use Rattle.radix.specs.Widths.{most_members, most_offsets}

-- what `spread` requires: the first `len` of `out` are assignments of the group, the group is inside the other, and there is room
pub record Spreading (m n : ℕ) (weights : List ℕ) (from to : ℕ) (out : List ℕ) (len : ℕ) : Type 0 where
  pub levels : 0 < m
  pub inputs : n ≤ most_members
  pub small : m ^ n ≤ most_offsets
  pub weighed : Weights m n weights
  pub all_weighed : n ≤ length weights
  pub part_of : inside n from to ≡ true
  pub part_le : from ≤ to
  pub group : to < 2 ^ n
  pub some : 0 < len
  pub own : (k : ℕ) → k < len → part m n from (get_or out k 0) ≡ get_or out k 0
  pub room : len * m ^ size n (to - from) ≤ length out

-- what `spread` returns, for every table: assignments that covered the group now cover the other
pub record Spread (m n from to : ℕ) (before : List ℕ) (len : ℕ) (after : List ℕ) (count : ℕ) : Type 0 where
  pub times : count ≡ len * m ^ size n (to - from)
  pub cover : (f : ℕ → ℕ) → Covers m n f from len (λ k. get_or before k 0) → Covers m n f to count (λ k. get_or after k 0)
