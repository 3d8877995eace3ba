-- `fields::ends::separated` meets its contract: the byte is the required one, another one, or missing.
-- Assumes nothing.
use Rattle.fields.specs.Judging.{separator_due, separator_other, separator_missing}
use Rattle.fields.proofs.ends.separated.Goals as goal

pub returns-then-s-end : goal.returns-then-s-end
returns-then-s-end c = separator_due _ _ _ _ c.if-end-s.true c.if-s-end.true

pub returns-else-s-end : goal.returns-else-s-end
returns-else-s-end c = separator_other _ _ _ _ c.if-end-s.true c.if-s-end.false

pub returns-else-end-s : goal.returns-else-end-s
returns-else-end-s c = separator_missing _ _ _ _ c.if-end-s.false
