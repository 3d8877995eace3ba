-- `glyphs::rows::print_rows` meets its contract. The loop's invariant: the first y rows are written. Assumes nothing.
use Rattle.glyphs.specs.Rows.{RowsDone}
use Rattle.glyphs.proofs.rows.print_rows.Given as goal

abbrev pub invariant-loop-y : goal.invariant-loop-y
invariant-loop-y l = RowsDone l.wires l.start l.width l.first l.initial.out l.y l.out
