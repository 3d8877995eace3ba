use Rattle.representatives.proofs.Agreeing.{Agrees}
use Rattle.representatives.proofs.witnesses.agree.Given as goal

abbrev pub invariant-loop-i : goal.invariant-loop-i
invariant-loop-i l = Agrees l.m l.n l.x l.y l.s l.rest l.u l.v l.i
