-- `evaluation::lists::cells::paint_row` meets its contract. The loop's invariant: the first j cells are written. Assumes nothing.
use Rattle.evaluation.specs.Lists.Painted.{RowPainted}
use Rattle.evaluation.proofs.lists.cells.paint_row.Given as goal

abbrev pub invariant-loop-entry : goal.invariant-loop-entry
invariant-loop-entry l = RowPainted l.fn.inner l.digits l.row l.step l.place l.lists l.entry-index l.initial.cells l.cells
