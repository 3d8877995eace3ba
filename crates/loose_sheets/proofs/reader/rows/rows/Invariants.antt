-- `loose_sheets::reader::rows::rows` meets its contract. The loop's invariant: as many rows are read, and the rows from here are the rows from the start.
-- Assumes nothing.
use Rattle.std.specs.Prelude.{◌≡◌}
use Rattle.laws.specs.Prelude.{length}
use Rattle.rules.specs.Limits.{most_cells}
use Rattle.loose_sheets.specs.Reader.Rows.{LooseInRows}
use Rattle.loose_sheets.proofs.reader.rows.rows.Given as goal

abbrev pub invariant-loop-row : goal.invariant-loop-row
invariant-loop-row l = record {
  marked : length l.given ≡ most_cells;
  rows : LooseInRows l.s l.at l.m l.n l.cells l.given l.place l._row;
}
