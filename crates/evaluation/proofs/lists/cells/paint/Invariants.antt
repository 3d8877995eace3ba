-- `evaluation::lists::cells::paint` meets its contract. The loop's invariant: the cells for the first i of the outer list are written. Assumes nothing.
use Rattle.evaluation.specs.Lists.Painted.{AllPainted}
use Rattle.evaluation.proofs.lists.cells.paint.Given as goal

abbrev pub invariant-loop-entry : goal.invariant-loop-entry
invariant-loop-entry l = AllPainted l.order l.digits l.from l.offset l.lists l.entry-index l.initial.cells l.cells
