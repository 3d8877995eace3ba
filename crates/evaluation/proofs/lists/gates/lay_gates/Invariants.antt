-- `evaluation::lists::gates::lay_gates` meets its contract. The loop's invariant: the inputs and the first k gates have their lists. Assumes nothing.
use Rattle.std.specs.Prelude.{◌+◌, ◌≡◌}
use Rattle.evaluation.specs.Lists.Wires.{wire_start}
use Rattle.evaluation.specs.Lists.Laid.{WiresListed}
use Rattle.evaluation.proofs.lists.gates.lay_gates.Given as goal

abbrev pub invariant-loop-k : goal.invariant-loop-k
invariant-loop-k l = (l.to ≡ wire_start l.net (l.net.inputs + l.k)) × WiresListed l.net (l.net.inputs + l.k) l.spans l.lists
