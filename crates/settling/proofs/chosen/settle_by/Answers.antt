-- `settling::chosen::settle_by` meets its contract. Assumes nothing.
use Rattle.std.proofs.lemmas.Result.{err_from_is_err_and}
use Rattle.laws.specs.Prelude.{sym}
use Rattle.accepted.specs.Taken.{net_refused_lem, net_taken}
use Rattle.settling.specs.Calls.{settles_refused}
use Rattle.settling.proofs.chosen.settle_by.Goals as goal

pub settle_net-requires : goal.settle_net-requires
settle_net-requires c = net_taken _ _ c.read_net.ensures _ c.in_ok-read.was

pub returns-in_err-read : goal.returns-in_err-read
returns-in_err-read c =
    let a = c.args in
    let p = err_from_is_err_and c.from_residual.result c.from_residual.ensures.1 in
    rw (p.1, p.2)
    (sym (settles_refused a.choice a.s.now a.cells.now a.marks.now a.out.now _ _ (net_refused_lem _ _ c.read_net.ensures _ c.in_err-read.was)))

pub returns : goal.returns
returns c = c.settle_net.ensures
