-- `evaluation::values::gate_by_gate` meets its contract. The loop's invariant: the first k gates have their values. Assumes nothing.
use Rattle.evaluation.specs.Values.{GatesDone}
use Rattle.evaluation.proofs.values.gate_by_gate.Given as goal

abbrev pub invariant-loop-k : goal.invariant-loop-k
invariant-loop-k l = GatesDone l.net l.initial.at l.base l.count l.initial.wires l.k l.at l.to l.wires
