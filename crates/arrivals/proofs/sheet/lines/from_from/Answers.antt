-- `arrivals::sheet::lines::from_from` meets its contract: the first time, then the rest.
-- Assumes nothing.
use Rattle.std.proofs.lemmas.Result.{err_from_is_err_and}
use Rattle.rules.specs.Text.{space, space_byte}
use Rattle.rules.specs.Sheets.Fields.{field}
use Rattle.rules.specs.Sheets.ArrivalSheet.{time_field}
use Rattle.fields.specs.Steps.{itself}
use Rattle.arrivals.specs.Sheet.Line.{from_from, from_to, line_back, line_on, time_on}
use Rattle.arrivals.proofs.sheet.lines.from_from.Goals as goal

pub from_to-requires : goal.from_to-requires
from_to-requires c = (time_on _ _ c.args.at _ c.in_ok-from.was 0 _ c.time_field.ensures).0

pub returns-in_err-from : goal.returns-in_err-from
unfolding from_from space
returns-in_err-from c =
    let p = err_from_is_err_and c.from_residual.result c.from_residual.ensures.1 in
    rw (p.1, p.2) (line_back itself (field (time_field 0) space_byte) from_to _ _ _ c.time_field.ensures _ c.in_err-from.was)

pub returns : goal.returns
unfolding from_from space
returns c =
    line_on itself (field (time_field 0) space_byte) from_to _ _ _ c.time_field.ensures _ c.from_to.result
    c.in_ok-from.was c.from_to.ensures
