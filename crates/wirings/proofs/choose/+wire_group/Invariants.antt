-- `wirings::choose::wire_group`: the measure is the group's number, since both parts of a split are below it. Assumes nothing.
use Rattle.wirings.proofs.choose.+wire_group.Given as goal

abbrev pub decreases-wire_group : goal.decreases-wire_group
decreases-wire_group l = l.g
