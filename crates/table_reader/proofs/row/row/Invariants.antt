-- `table_reader::row::row` meets its contract. The loop's invariant: the levels from here are the levels from the start.
-- Assumes nothing.
use Rattle.laws.specs.Prelude.{take}
use Rattle.table_reader.specs.Row.{InRow}
use Rattle.table_reader.proofs.row.row.Given as goal

abbrev pub invariant-loop-level : goal.invariant-loop-level
invariant-loop-level l = InRow l.s (take l.n l.levels) l.at l.place l.level-index
