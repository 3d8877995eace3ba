-- `tree_counts::numbered::wire_numbered`: the measure is the group's number, since both parts of a split are below it. Assumes nothing.
use Rattle.tree_counts.proofs.numbered.+wire_numbered.Given as goal

abbrev pub decreases-wire_numbered : goal.decreases-wire_numbered
decreases-wire_numbered l = l.g
