-- `fields::header::first_lines::from_levels` meets its contract: the levels field, then the rest.
-- Assumes nothing.
use Rattle.std.proofs.lemmas.Result.{err_from_is_err_and}
use Rattle.rules.specs.Text.{space, space_byte}
use Rattle.rules.specs.Sheets.Fields.{field_in}
use Rattle.rules.specs.Sheets.Sheets.{levels_field}
use Rattle.fields.specs.Steps.{itself}
use Rattle.fields.specs.Taken.{levels_on}
use Rattle.fields.specs.Header.FirstLines.{from_levels, from_inputs, rest_back, rest_on}
use Rattle.fields.proofs.header.first_lines.from_levels.Goals as goal

pub from_inputs-requires : goal.from_inputs-requires
from_inputs-requires c = levels_on _ _ c.args.at _ c.in_ok-levels.was _ _ c.levels_field.ensures

pub returns-in_err-levels : goal.returns-in_err-levels
unfolding from_levels space
returns-in_err-levels c =
    let p = err_from_is_err_and c.from_residual.result c.from_residual.ensures.1 in
    rw (p.1, p.2) (rest_back itself (field_in _ levels_field space_byte) (from_inputs _ _) _ _ _ c.levels_field.ensures _ c.in_err-levels.was)

pub returns : goal.returns
unfolding from_levels space
returns c =
    rest_on itself (field_in _ levels_field space_byte) (from_inputs _ _) _ _ _ c.levels_field.ensures _ c.from_inputs.result
    c.in_ok-levels.was c.from_inputs.ensures
