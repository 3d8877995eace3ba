-- `tree_counts::fast::full::keep_full` meets its contract. The loop's invariant: the recorded counts are right, and the parts passed have mark 2, so
-- the next one, if it has mark 2, is full. Assumes nothing.
use Rattle.std.specs.Prelude.{◌-◌, ◌≡◌}
use Rattle.laws.specs.Prelude.{length}
use Rattle.tree_counts.specs.Counts.{CountsKnown}
use Rattle.tree_counts.specs.Fast.Full.{TwosTo}
use Rattle.tree_counts.specs.Walking.{Passed}
use Rattle.tree_counts.proofs.fast.full.keep_full.Given as goal

abbrev pub invariant-loop-part : goal.invariant-loop-part
invariant-loop-part l = (length l.counts ≡ length l.initial.counts) × CountsKnown l.marks l.counts × Passed l.g l.part × TwosTo l.marks l.g l.part

abbrev pub decreases-loop-part : goal.decreases-loop-part
decreases-loop-part l = l.g - l.part
