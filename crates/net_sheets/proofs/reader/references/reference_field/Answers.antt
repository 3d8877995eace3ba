-- `net_sheets::reader::references::reference_field` meets its contract: a judged field.
-- Assumes nothing.
use Rattle.net_sheets.specs.Reader.References.{reference_read}
use Rattle.net_sheets.proofs.reader.references.reference_field.Goals as goal

pub returns : goal.returns
returns c =
    reference_read _ _ _ _ _ _ _ _ _ c.after_field.result c.field_at-w.ensures
    c.judge_reference-verdict.ensures c.after_field.ensures
