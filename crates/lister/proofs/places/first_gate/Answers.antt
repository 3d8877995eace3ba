-- `first_gate` meets its contract.
-- Assumes nothing.
use Rattle.lister.proofs.TurnSteps.{fourth}
use Rattle.lister.proofs.places.first_gate.Goals as goal

pub returns : goal.returns
returns c = fourth _ _ _ _ _ c.line_after-second.ensures c.line_after-third.ensures c.line_after-fourth.ensures
    c.line_after.ensures
