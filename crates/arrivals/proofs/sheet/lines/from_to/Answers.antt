-- `arrivals::sheet::lines::from_to` meets its contract: the second time, which ends the line.
-- Assumes nothing.
use Rattle.std.proofs.lemmas.Result.{err_from_is_err_and}
use Rattle.laws.specs.Prelude.{arith}
use Rattle.rules.specs.Text.{newline, newline_byte}
use Rattle.rules.specs.Sheets.Fields.{field, give}
use Rattle.rules.specs.Sheets.ArrivalSheet.{arrival_of, time_field}
use Rattle.fields.specs.Steps.{itself}
use Rattle.arrivals.specs.Sheet.Line.{from_to, line_back, time_on, to_on}
use Rattle.arrivals.proofs.sheet.lines.from_to.Goals as goal

pub returns-in_err-to : goal.returns-in_err-to
unfolding from_to newline
returns-in_err-to c =
    let p = err_from_is_err_and c.from_residual.result c.from_residual.ensures.1 in
    rw (p.1, p.2)
    (line_back itself (field (time_field _) newline_byte) (λ to. give (arrival_of _ to)) _ _ _ c.time_field.ensures _ c.in_err-to.was)

pub returns : goal.returns
returns c = to_on _ _ _ _ c.time_field.ensures _ c.in_ok-to.was

pub overflow_cast-result-2 : goal.overflow_cast-result-2
overflow_cast-result-2 c = omega (arith, (time_on _ _ c.args.at _ c.in_ok-to.was _ _ c.time_field.ensures).0)
