-- `tree_counts::counts::group_count`, `known_split` and `split_count`, which call each other, meet their contracts. The measure is three times the number
-- of members, one less for a split, and one less still where its count is not recorded. The loop's invariant: the recorded counts are right, and the sum is
-- that of the splits passed. Assumes nothing.
use Rattle.std.specs.Prelude.{◌-◌, ◌*◌, ◌≡◌}
use Rattle.laws.specs.Prelude.{length}
use Rattle.tree_counts.specs.Counts.{CountsKnown}
use Rattle.tree_counts.specs.Walking.{Passed, Summed}
use Rattle.rules.specs.Limits.{most_inputs}
use Rattle.rules.specs.Groups.Groups.{size}
use Rattle.tree_counts.proofs.counts.+group_count_split_count.Given as goal

abbrev pub decreases-group_count : goal.decreases-group_count
decreases-group_count l = 3 * size most_inputs l.g

abbrev pub decreases-known_split : goal.decreases-known_split
decreases-known_split l = 3 * size most_inputs l.g - 1

abbrev pub decreases-split_count : goal.decreases-split_count
decreases-split_count l = 3 * size most_inputs l.g - 2

abbrev pub invariant-group_count-loop-part : goal.invariant-group_count-loop-part
invariant-group_count-loop-part l =
    (length l.counts ≡ length l.initial.counts) × CountsKnown l.marks l.counts × Passed l.rest l.part × Summed l.marks l.g l.rest l.part l.sum

abbrev pub decreases-group_count-loop-part : goal.decreases-group_count-loop-part
decreases-group_count-loop-part l = l.rest - l.part
