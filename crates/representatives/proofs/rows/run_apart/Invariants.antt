-- `representatives::rows::run_apart` meets its contract. The loop's invariant: the cells so far are the same. Assumes nothing.
use Rattle.rules.specs.Calls.Answers.{ink_in}
use Rattle.representatives.specs.Runs.{SameRuns}
use Rattle.representatives.proofs.rows.run_apart.Given as goal

abbrev pub invariant-loop-z : goal.invariant-loop-z
invariant-loop-z l = SameRuns (ink_in l.cells) l.a l.b l.z
