-- `loose_sheets::reader::levels::judged_level` meets its contract: a judged field.
-- Assumes nothing.
use Rattle.laws.specs.Prelude.{◌∙◌}
use Rattle.fields.specs.Judging.{field_judged_in}
use Rattle.fields.specs.Steps.{itself}
use Rattle.loose_sheets.specs.Reader.Levels.{any_level_lem}
use Rattle.loose_sheets.proofs.reader.levels.judged_level.Goals as goal

pub returns : goal.returns
returns c =
    field_judged_in itself _ _ _ _ _ _ _ c.after_field_in.result c.field_at-w.ensures (c.judge_digit-verdict.ensures ∙ any_level_lem _ _)
    c.after_field_in.ensures
