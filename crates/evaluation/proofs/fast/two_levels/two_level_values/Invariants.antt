-- `evaluation::fast::two_levels::two_level_values` meets its contract. The loop's invariant: the gate has its first p values. Assumes nothing.
use Rattle.evaluation.specs.Gates.{GateDone}
use Rattle.evaluation.proofs.fast.two_levels.two_level_values.Given as goal

abbrev pub invariant-loop-p : goal.invariant-loop-p
invariant-loop-p l = GateDone 2 l.digits l.from l.left l.right l.to l.p l.initial.wires l.wires
