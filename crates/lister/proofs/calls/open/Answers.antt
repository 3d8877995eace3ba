-- `open` meets its contract.
-- Assumes nothing.
use Rattle.std.proofs.lemmas.Result.{err_from_is_err_and}
use Rattle.lister.proofs.Openings.{read_accepted, read_refused}
use Rattle.lister.proofs.calls.open.Goals as goal

pub returns-in_err-read_net : goal.returns-in_err-read_net
returns-in_err-read_net c =
    let p = err_from_is_err_and c.from_residual.result c.from_residual.ensures.1 in
    rw (p.1, p.2) (read_refused _ _ c.read_net.ensures _ c.in_err-read_net.was)

pub returns : goal.returns
returns c = read_accepted _ _ c.read_net.ensures _ _ c.in_ok-read_net.was c.first_gate.ensures
