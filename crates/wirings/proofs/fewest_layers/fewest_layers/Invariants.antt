-- `wirings::fewest_layers::fewest_layers` meets its contract. The loop's invariant: g is a part of the leaves, those below it are known, and have room
-- for their members if `sized` says so. Assumes nothing.
use Rattle.std.specs.Prelude.{◌≤◌, ◌+◌, ◌-◌, ◌≡◌}
use Rattle.laws.specs.Prelude.{true, length}
use Rattle.radix.specs.Parts.{PartOf}
use Rattle.wirings.specs.FewestLayers.{WiringKnown}
use Rattle.wirings.specs.Fast.Floors.{RoomInLayers}
use Rattle.wirings.proofs.fewest_layers.fewest_layers.Given as goal

abbrev pub invariant-loop-g : goal.invariant-loop-g
invariant-loop-g l =
    (l.g ≤ l.leaves + 1) × (length l.fewest ≡ length l.initial.fewest) × WiringKnown l.n l.marks l.leaves l.g l.fewest × (l.sized ≡ true → RoomInLayers l.marks l.leaves l.fewest l.g)
    × (l.g ≤ l.leaves → PartOf l.g l.leaves)

abbrev pub decreases-loop-g : goal.decreases-loop-g
decreases-loop-g l = l.leaves + 1 - l.g
