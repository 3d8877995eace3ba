-- `fields::header::name_line::name_field` meets its contract: a field that is tested.
-- Assumes nothing.
use Rattle.fields.specs.Header.NameLine.{name_read}
use Rattle.fields.proofs.header.name_line.name_field.Goals as goal

pub returns : goal.returns
returns c =
    name_read _ _ _ _ _ _ _ _ c.after_field_in.result c.field_at-w.ensures
    c.is_new_name.ensures c.judged-verdict.ensures c.after_field_in.ensures
