-- `net_sheets::reader::digits::digits_field` meets its contract: a field that is tested.
-- Assumes nothing.
use Rattle.net_sheets.specs.Reader.Digits.{digits_read}
use Rattle.net_sheets.proofs.reader.digits.digits_field.Goals as goal

pub returns : goal.returns
returns c =
    digits_read _ _ _ _ _ _ c.after_field.result c.field_at-w.ensures
    c.is_table.ensures c.judged-verdict.ensures c.after_field.ensures
