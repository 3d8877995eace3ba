-- `net_sheets::reader::gates::from_right` meets its contract: the right field, then the digits.
-- Assumes nothing.
use Rattle.std.proofs.lemmas.Result.{err_from_is_err_and}
use Rattle.net_sheets.specs.Reader.Gates.{right_back, right_on}
use Rattle.net_sheets.proofs.reader.gates.from_right.Goals as goal

pub returns-in_err-right : goal.returns-in_err-right
returns-in_err-right c =
    let p = err_from_is_err_and c.from_residual.result c.from_residual.ensures.1 in
    rw (p.1, p.2) (right_back _ _ _ _ _ _ _ _ _ c.reference_field.ensures _ _ c.in_err-right.was)

pub returns : goal.returns
returns c =
    right_on _ _ _ _ _ _ _ _ _ c.reference_field.ensures _ _ _ c.requires.2 c.in_ok-right.was c.from_digits.ensures
