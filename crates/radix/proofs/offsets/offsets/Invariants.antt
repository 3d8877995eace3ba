-- `radix::offsets::offsets` meets its contract. The loop's invariant: the offsets are those of the inputs from `i` on.
-- Assumes nothing.
use Rattle.radix.proofs.Building.{Built}
use Rattle.radix.proofs.offsets.offsets.Given as goal

abbrev pub invariant-loop-i : goal.invariant-loop-i
invariant-loop-i l = Built l.m l.n l.g l.out l.len l.w l.i
