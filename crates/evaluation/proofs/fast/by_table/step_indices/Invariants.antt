-- `evaluation::fast::by_table::step_indices` meets its contract. The loop's invariant: the first p indices have the input. Assumes nothing.
use Rattle.evaluation.specs.Lists.Runs.{Run}
use Rattle.evaluation.specs.Fast.ByTable.{index_step}
use Rattle.evaluation.proofs.fast.by_table.step_indices.Given as goal

abbrev pub invariant-loop-p : goal.invariant-loop-p
invariant-loop-p l = Run 0 l.p (index_step l.m l.start l.wires l.initial.indices) l.initial.indices l.indices
