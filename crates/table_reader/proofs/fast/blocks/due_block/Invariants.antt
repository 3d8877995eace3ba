-- `table_reader::fast::blocks::due_block` meets its contract. The loop's invariant: the rows before the block and l lines of it are read.
-- Assumes nothing.
use Rattle.std.specs.Prelude.{◌+◌, ◌*◌, ◌≡◌}
use Rattle.laws.specs.Prelude.{ℕ, take}
use Rattle.table_reader.specs.Fast.Rows.{TableReached}
use Rattle.table_reader.specs.Fast.Due.{row_bytes}
use Rattle.table_reader.proofs.fast.blocks.due_block.Given as goal

abbrev pub invariant-loop-l : goal.invariant-loop-l
invariant-loop-l l = record {
  place : l.place ≡ l.at + l.l * (l.m * row_bytes l.front);
  kept : take (l.q * l.m * l.m) l.cells ≡ take (l.q * l.m * l.m) l.initial.cells;
  reached : (start : ℕ)
      → TableReached l.s start l.m (l.front + 1 + 1) l.initial.cells l.at (l.q * l.m * l.m)
      → TableReached l.s start l.m (l.front + 1 + 1) l.cells l.place ((l.q * l.m + l.l) * l.m);
}
