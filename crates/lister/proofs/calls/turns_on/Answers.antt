-- `turns_on` meets its contract. The loop's invariant: the place is the lister's place after as many turns.
-- Assumes nothing.
use Rattle.std.specs.Prelude.{◌≡◌}
use Rattle.laws.specs.Prelude.{◌∙◌, ap, arith}
use Rattle.lister.specs.Places.{stands_at}
use Rattle.lister.specs.Standing.{stays}
use Rattle.lister.proofs.calls.turns_on.Goals as goal

pub returns-then-s-at : goal.returns-then-s-at
returns-then-s-at c = c.loop.invariant ∙ stays _ _ _ (omega arith) (omega arith)

pub returns-after-loop : goal.returns-after-loop
returns-after-loop c = let e : c.loop.counter ≡ c.args.count = omega arith in c.loop.invariant ∙ ap (stands_at _) e
