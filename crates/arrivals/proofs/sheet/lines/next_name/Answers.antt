-- `arrivals::sheet::lines::next_name` meets its contract: a field that is tested.
-- Assumes nothing.
use Rattle.rules.specs.Sheets.ArrivalSheet.{next_name}
use Rattle.fields.specs.Judging.{field_tested}
use Rattle.fields.specs.Steps.{nothing}
use Rattle.arrivals.proofs.sheet.lines.next_name.Goals as goal

pub returns : goal.returns
unfolding next_name
returns c =
    field_tested nothing _ _ _ _ _ _ _ _ _ c.after_field.result c.field_at-w.ensures c.judged-verdict.ensures
    (rw c.same_bytes.ensures) c.after_field.ensures
