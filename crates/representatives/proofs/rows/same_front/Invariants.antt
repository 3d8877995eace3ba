-- `representatives::rows::same_front` meets its contract. The loop's invariant: the cells so far are the same. Assumes nothing.
use Rattle.std.specs.Prelude.{◌≤◌, ◌-◌}
use Rattle.rules.specs.Calls.Answers.{ink_in}
use Rattle.representatives.specs.Runs.{SameRuns}
use Rattle.representatives.proofs.rows.same_front.Given as goal

abbrev pub invariant-loop-z : goal.invariant-loop-z
invariant-loop-z l = (l.z ≤ l.run) × SameRuns (ink_in l.cells) l.a l.b l.z

abbrev pub decreases-loop-z : goal.decreases-loop-z
decreases-loop-z l = l.run - l.z
