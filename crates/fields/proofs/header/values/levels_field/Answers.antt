-- `fields::header::values::levels_field` meets its contract: a judged field.
-- Assumes nothing.
use Rattle.fields.specs.Judging.{field_judged_in}
use Rattle.fields.specs.Steps.{itself}
use Rattle.fields.proofs.header.values.levels_field.Goals as goal

pub returns : goal.returns
returns c = field_judged_in itself _ _ _ _ _ _ _ c.after_field_in.result c.field_at-w.ensures c.judge_levels-verdict.ensures
    c.after_field_in.ensures
