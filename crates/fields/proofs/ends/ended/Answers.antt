-- `fields::ends::ended` meets its contract: a refusal, or bytes or no bytes after the last line.
-- Assumes nothing.
use Rattle.std.proofs.lemmas.Result.{err_from_is_err_and}
use Rattle.fields.specs.Chained.{end_back, end_over, end_closed}
use Rattle.fields.proofs.ends.ended.Goals as goal

pub returns-then-next-s : goal.returns-then-next-s
returns-then-next-s c = end_over _ _ _ c.in_ok-next.was c.if-next-s.true

pub returns-in_err-next : goal.returns-in_err-next
returns-in_err-next c =
    let p = err_from_is_err_and c.from_residual.result c.from_residual.ensures.1 in
    rw (p.1, p.2) (end_back _ _ _ c.in_err-next.was)

pub returns : goal.returns
returns c = end_closed _ _ _ c.in_ok-next.was c.if-next-s.false
