-- `evaluation::lists::cells::paint_copies` meets its contract. The loop's invariant: the table for the first h offsets is written. Assumes nothing.
use Rattle.evaluation.specs.Lists.Painted.{Painted, Parts}
use Rattle.evaluation.specs.Lists.Cells.{CopyWrites}
use Rattle.evaluation.proofs.lists.cells.paint_copies.Given as goal

abbrev pub invariant-loop-offset : goal.invariant-loop-offset
invariant-loop-offset l = Painted (Parts (CopyWrites l.net l.last l.lists l.offset-items) l.offset-index) l.initial.cells l.cells
