-- `arrivals::sheet::times::time_field` meets its contract: a judged field.
-- Assumes nothing.
use Rattle.fields.specs.Judging.{field_judged}
use Rattle.fields.specs.Steps.{itself}
use Rattle.arrivals.proofs.sheet.times.time_field.Goals as goal

pub returns : goal.returns
returns c =
    field_judged itself _ _ _ _ _ _ c.after_field.result c.field_at-w.ensures c.judge_time-verdict.ensures c.after_field.ensures
