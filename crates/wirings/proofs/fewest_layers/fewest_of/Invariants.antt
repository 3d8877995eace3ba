-- `wirings::fewest_layers::fewest_of` meets its contract. The loop's invariant: `least` is the least over the parts passed. Assumes nothing.
use Rattle.std.specs.Prelude.{◌-◌}
use Rattle.wirings.proofs.Scanning.{Scanned}
use Rattle.wirings.proofs.fewest_layers.fewest_of.Given as goal

abbrev pub invariant-loop-part : goal.invariant-loop-part
invariant-loop-part l = Scanned l.marks l.fewest l.g l.rest l.part l.least

abbrev pub decreases-loop-part : goal.decreases-loop-part
decreases-loop-part l = l.rest - l.part
