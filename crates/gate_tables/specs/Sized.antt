-- The cells of a table within a sheet's bounds, and limits on their number.
-- Assumes nothing.
use Rattle.std.specs.Prelude.{◌<◌, ◌≤◌, ◌^◌, ◌≡◌}
use Rattle.laws.specs.Prelude.{ℕ, true, List, arith, length}
use Rattle.rules.specs.Limits.{most_levels, most_inputs, most_cells, size_fits}
use Rattle.laws.specs.Numbers.Sizes.{sized as sizes}

-- the cells of a table within a sheet's bounds
pub record Sized (m n : ℕ) (cells : List ℕ) : Type 0 where
  pub fits : size_fits m n ≡ true
  pub some : 0 < m
  pub levels : m ≤ most_levels
  pub inputs : n ≤ most_inputs
  pub small : m ^ n ≤ most_cells
  pub count : m ^ n ≤ length cells

pub sized_cells : (m n : ℕ) (cells : List ℕ) → size_fits m n ≡ true → m ^ n ≤ length cells → Sized m n cells
sized_cells m n cells fits count =
    let s = sizes m n fits in
    record {
      fits = fits;
      some = omega (arith, s.levels_least);
      levels = s.levels_most;
      inputs = s.inputs_most;
      small = s.cells_most;
      count = count;
    }
