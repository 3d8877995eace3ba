-- `evaluation::lists::inputs::lay_inputs` meets its contract. The loop's invariant: the first i inputs have their lists. Assumes nothing.
use Rattle.std.specs.Prelude.{◌-◌, ◌^◌, ◌≡◌}
use Rattle.evaluation.specs.Lists.Wires.{wire_start}
use Rattle.evaluation.specs.Lists.Laid.{WiresListed}
use Rattle.evaluation.proofs.lists.inputs.lay_inputs.Given as goal

abbrev pub invariant-loop-i : goal.invariant-loop-i
invariant-loop-i l =
    let net = l.fn.net in
    (l.weight ≡ net.levels ^ (net.inputs - l.i)) × (l.at ≡ wire_start net l.i) × (l.bit ≡ 2 ^ l.i) × WiresListed net l.i l.spans l.lists
