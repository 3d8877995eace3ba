-- `line_end` meets its contract. The loop's invariant: the line's end from here is the line's end from the start.
-- Assumes nothing.
use Rattle.std.specs.Prelude.{◌+◌, ◌≡◌}
use Rattle.laws.specs.Prelude.{drop}
use Rattle.rules.specs.Calls.Lister.{line_length}
use Rattle.lister.proofs.places.line_end.Given as goal

abbrev pub invariant-loop-end : goal.invariant-loop-end
invariant-loop-end l = l.end + line_length (drop l.end l.s) ≡ l.at + line_length (drop l.at l.s)
