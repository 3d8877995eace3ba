-- `net_sheets::reader::gates::gate_line` meets its contract: the left field, then the rest.
-- Assumes nothing.
use Rattle.std.proofs.lemmas.Result.{err_from_is_err_and}
use Rattle.net_sheets.specs.Reader.Gates.{left_back, left_on}
use Rattle.net_sheets.proofs.reader.gates.gate_line.Goals as goal

pub returns-in_err-left : goal.returns-in_err-left
returns-in_err-left c =
    let p = err_from_is_err_and c.from_residual.result c.from_residual.ensures.1 in
    rw (p.1, p.2) (left_back _ _ _ _ _ _ _ _ _ c.reference_field.ensures _ c.in_err-left.was)

pub returns : goal.returns
returns c =
    left_on _ _ _ _ _ _ _ _ _ c.reference_field.ensures _ _ _ c.in_ok-left.was c.from_right.ensures
