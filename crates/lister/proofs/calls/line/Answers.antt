-- `line` meets its contract.
-- Assumes nothing.
use Rattle.std.proofs.lemmas.Result.{err_from_is_err_and}
use Rattle.lister.proofs.Openings.{opened_at, listed_refused, listed_given}
use Rattle.lister.proofs.calls.line.Goals as goal

pub turns_on-requires : goal.turns_on-requires
turns_on-requires c = (opened_at _ _ c.open.ensures _ c.in_ok-first.was).2

pub returns-in_err-first : goal.returns-in_err-first
returns-in_err-first c =
    let p = err_from_is_err_and c.from_residual.result c.from_residual.ensures.1 in
    rw (p.1, p.2) (listed_refused _ _ c.open.ensures _ _ c.in_err-first.was)

pub returns : goal.returns
returns c = listed_given _ _ c.open.ensures _ _ _ _ c.in_ok-first.was c.turns_on.ensures c.turn_at.ensures
