-- `turn_at` meets its contract.
-- Assumes nothing.
use Rattle.lister.proofs.TurnAnswers.{turn_given, turn_none}
use Rattle.lister.proofs.turns.turn_at.Goals as goal

pub returns-then-s-at : goal.returns-then-s-at
returns-then-s-at c = turn_none _ _ c.if-s-at.true

pub returns : goal.returns
returns c = turn_given _ _ _ c.line_end-end.ensures c.if-s-at.false
