-- `radix::offsets::widen` meets its contract. The loop's invariant: the first `j` entries are those of the widened list.
-- Assumes nothing.
use Rattle.std.specs.Prelude.{◌≡◌}
use Rattle.laws.specs.Prelude.{take}
use Rattle.radix.specs.Offsets.{widened}
use Rattle.radix.proofs.offsets.widen.Given as goal

abbrev pub invariant-loop-j : goal.invariant-loop-j
invariant-loop-j l = take l.j l.out ≡ take l.j (widened l.m l.w (take l.len l.initial.out))
