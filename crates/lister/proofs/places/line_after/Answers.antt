-- `line_after` meets its contract.
-- Assumes nothing.
use Rattle.laws.specs.Prelude.{arith}
use Rattle.lister.specs.Places.{line_after_of}
use Rattle.lister.proofs.TurnSteps.{onward}
use Rattle.lister.proofs.places.line_after.Goals as goal

pub returns : goal.returns
unfolding line_after_of
returns c = onward _ _ _ (omega arith)
