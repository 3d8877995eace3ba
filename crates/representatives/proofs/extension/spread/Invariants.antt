-- `representatives::extension::spread` meets its contract. Loop invariant: the assignments so far cover the group without the remaining members.
-- Assumes nothing.
use Rattle.representatives.proofs.Spreading.{Spreads}
use Rattle.representatives.proofs.extension.spread.Given as goal

abbrev pub invariant-loop-rest : goal.invariant-loop-rest
invariant-loop-rest l = Spreads l.m l.n l.weights l.from l.to l.initial.out l.len l.out l.rest l.count

abbrev pub decreases-loop-rest : goal.decreases-loop-rest
decreases-loop-rest l = l.rest
