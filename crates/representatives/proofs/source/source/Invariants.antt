-- `representatives::source::source` meets its contract. Loop invariant: the members still to be tried are members of g, and so is the best so far.
-- Assumes nothing.
use Rattle.representatives.proofs.Taking.{Takes}
use Rattle.representatives.proofs.source.source.Given as goal

abbrev pub invariant-loop-rest : goal.invariant-loop-rest
invariant-loop-rest l = Takes l.g l.rest l.best

abbrev pub decreases-loop-rest : goal.decreases-loop-rest
decreases-loop-rest l = l.rest
