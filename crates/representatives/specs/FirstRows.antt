-- What the search for the first of each class among rows requires.
-- Assumes nothing.
use Rattle.std.specs.Prelude.{◌<◌}
use Rattle.laws.specs.Prelude.{ℕ, List, length, get_or}
use Rattle.classes.specs.Within.{Within}

-- the requirements: some rows and some columns, inside the cells, and room for the first of m + 1 classes
pub record RowsFit (cells : ℕ) (xs ys : List ℕ) (m length_firsts : ℕ) : Type 0 where
  pub rows : 0 < length xs
  pub columns : 0 < length ys
  pub levels : 0 < m
  pub room : m < length_firsts
  pub within : (i : ℕ) → i < length xs → Within cells ys (get_or xs i 0)
