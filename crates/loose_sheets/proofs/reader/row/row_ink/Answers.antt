-- `loose_sheets::reader::row::row_ink` meets its contract.
-- Assumes nothing.
use Rattle.std.proofs.lemmas.Result.{err_from_is_err_and}
use Rattle.loose_sheets.specs.Reader.Row.{ink_back, loose_row_ink_on}
use Rattle.loose_sheets.proofs.reader.row.row_ink.Goals as goal

pub returns-in_err-ink : goal.returns-in_err-ink
returns-in_err-ink c =
    let p = err_from_is_err_and c.from_residual.result c.from_residual.ensures.1 in
    rw (p.1, p.2) (ink_back _ c.args.at _ _ _ c.ink_field.ensures _ c.in_err-ink.was)

pub returns : goal.returns
returns c = loose_row_ink_on _ c.args.at _ _ _ c.ink_field.ensures _ c.in_ok-ink.was
