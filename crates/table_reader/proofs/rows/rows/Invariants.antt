-- `table_reader::rows::rows` meets its contract. The loop's invariant: the rows from here are the rows from the start, and `levels` begins with
-- the levels of index p. Assumes nothing.
use Rattle.std.specs.Prelude.{◌≡◌}
use Rattle.laws.specs.Prelude.{length}
use Rattle.rules.specs.Limits.{most_inputs}
use Rattle.table_reader.specs.Fast.Rows.{InRows}
use Rattle.table_reader.proofs.rows.rows.Given as goal

abbrev pub invariant-loop-p : goal.invariant-loop-p
invariant-loop-p l = record {
  long : length l.levels ≡ most_inputs;
  rows : InRows l.s l.at l.m l.n l.cells l.levels l.place l.p;
}
