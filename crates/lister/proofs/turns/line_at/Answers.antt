-- `line_at` meets its contract.
-- Assumes nothing.
use Rattle.lister.proofs.TurnAnswers.{line_end, part_given, part_none}
use Rattle.lister.proofs.turns.line_at.Goals as goal

pub returns-then-at-s : goal.returns-then-at-s
returns-then-at-s c = part_given c.args.s _ _ c.line_end-end.ensures c.if-at-s.true

pub returns : goal.returns
returns c = part_none c.args.s _ c.if-at-s.false

pub slice_bounds-result-end : goal.slice_bounds-result-end
slice_bounds-result-end c = line_end _ _ _ c.line_end-end.ensures c.if-at-s.true
