-- `fields::runs::field_end` meets its contract. The loop's invariant: the field from `end` on ends where the one from `at` on does.
-- Assumes nothing.
use Rattle.std.specs.Prelude.{◌-◌, ◌≡◌}
use Rattle.laws.specs.Prelude.{length}
use Rattle.laws.specs.Lists.Runs.{field_end}
use Rattle.fields.proofs.runs.field_end.Given as goal

abbrev pub invariant-loop-end : goal.invariant-loop-end
invariant-loop-end l = field_end l.s l.end ≡ field_end l.s l.at
