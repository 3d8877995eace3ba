-- `evaluation::gate::looked_up_values` meets its contract. The loop's invariant: the gate has its first p values. Assumes nothing.
use Rattle.evaluation.specs.Gates.{GateDone}
use Rattle.evaluation.proofs.gate.looked_up_values.Given as goal

abbrev pub invariant-loop-p : goal.invariant-loop-p
invariant-loop-p l = GateDone l.m l.digits l.from l.left l.right l.to l.p l.initial.wires l.wires
