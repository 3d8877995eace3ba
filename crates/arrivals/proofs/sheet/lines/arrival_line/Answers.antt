-- `arrivals::sheet::lines::arrival_line` meets its contract: the name, then the times.
-- Assumes nothing.
use Rattle.std.proofs.lemmas.Result.{err_from_is_err_and}
use Rattle.rules.specs.Text.{space, space_byte}
use Rattle.rules.specs.Sheets.Fields.{field}
use Rattle.rules.specs.Sheets.ArrivalSheet.{next_name, arrival_line}
use Rattle.fields.specs.Steps.{nothing}
use Rattle.arrivals.specs.Sheet.Line.{from_from, from_to, line_back, line_on}
use Rattle.arrivals.proofs.sheet.lines.arrival_line.Goals as goal

pub returns-in_err-field : goal.returns-in_err-field
unfolding arrival_line from_from from_to space
returns-in_err-field c =
    let p = err_from_is_err_and c.from_residual.result c.from_residual.ensures.1 in
    rw (p.1, p.2) (line_back nothing (field (next_name _) space_byte) (λ _. from_from) _ _ _ c.next_name.ensures _ c.in_err-field.was)

pub returns : goal.returns
unfolding arrival_line from_from from_to space
returns c =
    line_on nothing (field (next_name _) space_byte) (λ _. from_from) _ _ _ c.next_name.ensures _ c.from_from.result
    c.in_ok-field.was c.from_from.ensures
