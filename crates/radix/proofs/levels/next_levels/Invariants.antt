-- `radix::levels::next_levels` meets its contract. The loop's invariant: stepping the first i levels from here gives what stepping the
-- first n gives at the start. Assumes nothing.
use Rattle.std.specs.Prelude.{◌≡◌}
use Rattle.radix.proofs.Stepping.{stepped}
use Rattle.radix.proofs.levels.next_levels.Given as goal

abbrev pub invariant-loop-i : goal.invariant-loop-i
invariant-loop-i l = stepped l.m l.i l.levels ≡ stepped l.m l.n l.initial.levels
