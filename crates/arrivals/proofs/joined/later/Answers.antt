-- `arrivals::joined::later` meets its contract.
-- Assumes nothing.
use Rattle.laws.specs.Numbers.Quarters.{later_of}
use Rattle.arrivals.proofs.joined.later.Goals as goal

pub returns-then-a-b : goal.returns-then-a-b
unfolding later_of
returns-then-a-b c = rw c.if-a-b.true

pub returns-else-a-b : goal.returns-else-a-b
unfolding later_of
returns-else-a-b c = rw c.if-a-b.false
