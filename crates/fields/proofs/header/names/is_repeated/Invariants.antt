-- `fields::header::names::is_repeated` meets its contract. The loop's invariant: some input has the name exactly when one from `i` on has it.
-- Assumes nothing.
use Rattle.std.specs.Prelude.{◌-◌, ◌≡◌}
use Rattle.laws.specs.Prelude.{map}
use Rattle.rules.specs.Lists.{range, any, same}
use Rattle.nets.specs.Forms.{name_in}
use Rattle.fields.proofs.header.names.is_repeated.Given as goal

abbrev pub invariant-loop-i : goal.invariant-loop-i
invariant-loop-i l = any (same l.w) (map (name_in l.s l.header) (range l.i (l.count - l.i))) ≡ any (same l.w) (map (name_in l.s l.header) (range 0 l.count))
