-- `fields::ends::judged` meets its contract.
-- Assumes nothing.
use Rattle.fields.specs.Steps.{tested}
use Rattle.fields.proofs.ends.judged.Goals as goal

pub returns-then-test : goal.returns-then-test
unfolding tested
returns-then-test c = rw c.if-test.true

pub returns : goal.returns
unfolding tested
returns c = rw c.if-test.false
