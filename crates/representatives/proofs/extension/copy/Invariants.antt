-- `representatives::extension::copy` meets its contract. The loop's invariant: `k` numbers are copied; below `b` nothing changed. Assumes nothing.
use Rattle.representatives.specs.Copies.{Copied}
use Rattle.representatives.proofs.extension.copy.Given as goal

abbrev pub invariant-loop-k : goal.invariant-loop-k
invariant-loop-k l = Copied l.from l.a l.initial.to l.b l.k l.to
