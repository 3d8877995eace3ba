-- `table_reader::levels::level_field` meets its contract: a field that is tested.
-- Assumes nothing.
use Rattle.rules.specs.Sheets.Sheets.{level_field}
use Rattle.fields.specs.Judging.{field_tested}
use Rattle.fields.specs.Steps.{nothing}
use Rattle.table_reader.proofs.levels.level_field.Goals as goal

pub returns : goal.returns
unfolding level_field
returns c =
    field_tested nothing _ _ _ _ _ _ _ _ _ c.after_field.result c.field_at-w.ensures c.judged-verdict.ensures
    (rw c.is_level.ensures) c.after_field.ensures
