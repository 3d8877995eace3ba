-- `turns_on` meets its contract. The loop's invariant: the place is the lister's place after as many turns.
-- Assumes nothing.
use Rattle.std.specs.Prelude.{◌≡◌}
use Rattle.lister.specs.Places.{stands_at}
use Rattle.lister.proofs.calls.turns_on.Given as goal

abbrev pub invariant-loop : goal.invariant-loop
invariant-loop l = l.at ≡ stands_at l.s l.counter
