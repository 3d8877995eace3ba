-- `tree_counts::numbered::numbered_split` meets its contract. The loop's invariant: the recorded counts are right, and among the remaining splits the
-- rest of the number falls where the number falls among all. Assumes nothing.
use Rattle.std.specs.Prelude.{◌-◌, ◌≡◌}
use Rattle.laws.specs.Prelude.{length}
use Rattle.tree_counts.specs.Counts.{CountsKnown}
use Rattle.tree_counts.specs.Walking.{Passed, SplitsLeft}
use Rattle.tree_counts.proofs.numbered.numbered_split.Given as goal

abbrev pub invariant-loop-part : goal.invariant-loop-part
invariant-loop-part l =
    (length l.counts ≡ length l.initial.counts) × CountsKnown l.marks l.counts × Passed l.rest l.part
    × SplitsLeft l.marks l.g l.rest l.r l.part l.left

abbrev pub decreases-loop-part : goal.decreases-loop-part
decreases-loop-part l = l.rest - l.part
