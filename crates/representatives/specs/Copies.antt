-- Part of one list copied into another.
-- Assumes nothing.
use Rattle.std.specs.Prelude.{◌<◌, ◌+◌, ◌≡◌}
use Rattle.laws.specs.Prelude.{ℕ, List, get_or}

-- `count` numbers, from a on, are copied to b and after it; the rest is unchanged
pub record Copied (from : List ℕ) (a : ℕ) (before : List ℕ) (b count : ℕ) (after : List ℕ) : Type 0 where
  pub copied : (k : ℕ) → k < count → get_or after (b + k) 0 ≡ get_or from (a + k) 0
  pub below : (j : ℕ) → j < b → get_or after j 0 ≡ get_or before j 0
