-- `fields::runs::spaces_end` meets its contract. The loop's invariant: the spaces from `end` on end where those from `at` on do.
-- Assumes nothing.
use Rattle.std.specs.Prelude.{◌-◌, ◌≡◌}
use Rattle.laws.specs.Prelude.{length}
use Rattle.fields.specs.Runs.{spaces_end}
use Rattle.fields.proofs.runs.spaces_end.Given as goal

abbrev pub invariant-loop-end : goal.invariant-loop-end
invariant-loop-end l = spaces_end l.s l.end ≡ spaces_end l.s l.at
