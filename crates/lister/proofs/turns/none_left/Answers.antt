-- `none_left` meets its contract.
-- Assumes nothing.
use Rattle.lister.proofs.TurnAnswers.{none_left}
use Rattle.lister.proofs.turns.none_left.Goals as goal

pub returns : goal.returns
returns c = none_left _ _
