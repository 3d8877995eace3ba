-- `net_sheets::reader::gates::from_digits` meets its contract: the table field.
-- Assumes nothing.
use Rattle.std.proofs.lemmas.Result.{err_from_is_err_and}
use Rattle.net_sheets.specs.Reader.Gates.{digits_back, digits_on}
use Rattle.net_sheets.proofs.reader.gates.from_digits.Goals as goal

pub returns-in_err-table : goal.returns-in_err-table
returns-in_err-table c =
    let p = err_from_is_err_and c.from_residual.result c.from_residual.ensures.1 in
    rw (p.1, p.2) (digits_back _ _ _ _ _ _ c.digits_field.ensures _ c.in_err-table.was)

pub returns : goal.returns
returns c = digits_on _ _ _ _ _ _ c.digits_field.ensures _ c.in_ok-table.was
