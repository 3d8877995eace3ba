-- `representatives::rows::same_front` meets its contract: eight more cells are the same. Assumes nothing.
use Rattle.laws.specs.Prelude.{arith}
use Rattle.rules.specs.Calls.Answers.{ink_in}
use Rattle.representatives.specs.Runs.{same_further}
use Rattle.representatives.proofs.rows.same_front.Goals as goal

pub loop-z-preserved : goal.loop-z-preserved
loop-z-preserved c =
    let a = c.args in
    let l = c.loop-z in
    (omega arith, same_further (ink_in a.cells.now) a.a a.b l.z 8 l.invariant.1 (c.eight_same.ensures c.if-not-eight_same.false))
