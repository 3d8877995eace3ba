-- `evaluation::fast::by_table::look_up` meets its contract. The loop's invariant: the first p cells are there. Assumes nothing.
use Rattle.evaluation.specs.Lists.Runs.{Run}
use Rattle.evaluation.specs.Fast.ByTable.{index_cell}
use Rattle.evaluation.proofs.fast.by_table.look_up.Given as goal

abbrev pub invariant-loop-p : goal.invariant-loop-p
invariant-loop-p l = Run l.to l.p (index_cell l.cells l.indices) l.initial.wires l.wires
