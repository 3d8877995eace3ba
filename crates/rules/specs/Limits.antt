-- The limits of document 01, two of them raised by document 02, K6, each defined here once: for a sheet, for a settled sheet's length, for what a
-- program reads; and the limits for arrival times (document 02, K5).
-- Assumes nothing.
use Rattle.std.specs.Prelude.{ℕ, ◌^◌, Bool, ◌&&◌, leb}

-- "Levels, written m, is one digit from 2 to 9."
abbrev pub fewest_levels : ℕ
fewest_levels = 2

-- .. "to 9"
abbrev pub most_levels : ℕ
most_levels = 9

-- "Inputs, written n, is 2 to" ..
abbrev pub fewest_inputs : ℕ
fewest_inputs = 2

-- "The cell limit rises to 4,096 and inputs to 12" (document 02, K6)
abbrev pub most_inputs : ℕ
most_inputs = 12

-- "m to the power n, the number of cells, is at most" what document 02, K6, says: "The cell limit rises to 4,096"
abbrev pub most_cells : ℕ
most_cells = 4_096

-- "A name has 1 to 8 bytes"
abbrev pub most_name_bytes : ℕ
most_name_bytes = 8

-- levels, inputs and the number of cells, each within its bounds
unfoldable pub levels_fit : ℕ → Bool
levels_fit m = leb fewest_levels m && leb m most_levels

unfoldable pub inputs_fit : ℕ → Bool
inputs_fit n = leb fewest_inputs n && leb n most_inputs

unfoldable pub cells_fit_of : ℕ → ℕ → Bool
cells_fit_of m n = leb (m ^ n) most_cells

-- all three
unfoldable pub size_fits : ℕ → ℕ → Bool
size_fits m n = levels_fit m && inputs_fit n && cells_fit_of m n

-- "the settled sheet's length, which is never over 512"; "512 bytes still suffice for a net" (document 02, K6)
abbrev pub most_settled : ℕ
most_settled = 512

-- the length that include/sitgurp.h calls enough for a table sheet, which is never over it
abbrev pub most_table_sheet : ℕ
most_table_sheet = 106_627

-- "at most its first 65,536 bytes, which are then the sheet"
abbrev pub most_read : ℕ
most_read = 65_536

-- document 02, K5: "whole numbers of quarter microseconds, 0 to 65,535"
abbrev pub most_time : ℕ
most_time = 65_535

-- "one common delay, a byte of quarters"
abbrev pub most_delay : ℕ
most_delay = 255

-- all of this file computes
unfoldable pub computing : Unit {0}
unfolding levels_fit inputs_fit cells_fit_of size_fits
computing = tt
