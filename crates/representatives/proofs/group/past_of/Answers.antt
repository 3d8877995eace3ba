-- `representatives::group::past_of` meets its contract: twice the power if it is reached. Assumes nothing.
use Rattle.laws.specs.Prelude.{arith, pow_pos}
use Rattle.representatives.specs.Steps.{near_twice}
use Rattle.representatives.proofs.group.past_of.Goals as goal

pub returns-then-g-past : goal.returns-then-g-past
returns-then-g-past c = λ n g< near. let twice = near_twice near c.if-g-past.true g< in (twice, omega (arith, near.is, pow_pos near.end))
