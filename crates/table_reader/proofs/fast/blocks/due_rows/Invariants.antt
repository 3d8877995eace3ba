-- `table_reader::fast::blocks::due_rows` meets its contract. The loop's invariant: q blocks are read.
-- Assumes nothing.
use Rattle.std.specs.Prelude.{◌-◌, ◌*◌, ◌≡◌}
use Rattle.table_reader.specs.Fast.Blocks.{InBlocks}
use Rattle.table_reader.proofs.fast.blocks.due_rows.Given as goal

abbrev pub invariant-loop-q : goal.invariant-loop-q
invariant-loop-q l = record {
  rows : l.taken.rows ≡ l.q * l.m * l.m;
  blocks : InBlocks l.s l.at l.m (l.n - 2) l.cells l.levels l.taken.place l.q;
}
