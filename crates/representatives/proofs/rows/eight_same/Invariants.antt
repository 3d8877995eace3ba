-- `representatives::rows::eight_same` meets its contract. Loop invariant: if none differs so far, all cells so far are the same. Assumes nothing.
use Rattle.std.specs.Prelude.{◌≡◌, true}
use Rattle.rules.specs.Calls.Answers.{ink_in}
use Rattle.representatives.specs.Runs.{SameRuns}
use Rattle.representatives.proofs.rows.eight_same.Given as goal

abbrev pub invariant-loop-k : goal.invariant-loop-k
invariant-loop-k l = l.same ≡ true → SameRuns (ink_in l.cells) l.a l.b l.k
