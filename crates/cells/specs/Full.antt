-- The cells of a full table.
-- Assumes nothing.
use Rattle.std.specs.Prelude.{◌<◌, ◌≤◌, ◌^◌, ◌≡◌}
use Rattle.laws.specs.Prelude.{ℕ, true, List, arith, length}
use Rattle.rules.specs.Limits.{size_fits}
use Rattle.rules.specs.Calls.Answers.{accepted, ink_in}
use Rattle.rules.specs.Calls.OpenCells.{full_cells}
use Rattle.laws.specs.Calls.OpenCells.{cells_sized, cells_below}

-- a size that fits, a cell for each assignment, and every ink a level
pub record FullCells (m n : ℕ) (cells : List ℕ) : Type 0 where
  pub size : size_fits m n ≡ true
  pub count : m ^ n ≤ length cells
  pub levels : (p : ℕ) → p < m ^ n → ink_in cells p < m

-- bare cells that are accepted are the cells of a full table
pub accepted_full : (m n : ℕ) (cells : List ℕ) → accepted tt ≡ full_cells m n cells → FullCells m n cells
accepted_full m n cells e =
    let (fits, count) = cells_sized m n cells e in
    record { size = fits; count = omega arith; levels = λ p h. cells_below m n cells e p (omega arith) }

-- the same, and no cell besides: the cells of a full table as one value
pub record Full (m n : ℕ) (cells : List ℕ) : Type 0 where
  pub size : size_fits m n ≡ true
  pub count : length cells ≡ m ^ n
  pub levels : (p : ℕ) → p < m ^ n → ink_in cells p < m

pub full_enough : {m n : ℕ} {cells : List ℕ} → Full m n cells → FullCells m n cells
full_enough full = record { size = full.size; count = omega (arith, full.count); levels = full.levels }

pub accepted_table : (m n : ℕ) (cells : List ℕ) → accepted tt ≡ full_cells m n cells → Full m n cells
accepted_table m n cells e =
    let (fits, count) = cells_sized m n cells e in
    record { size = fits; count = count; levels = λ p h. cells_below m n cells e p (omega arith) }
