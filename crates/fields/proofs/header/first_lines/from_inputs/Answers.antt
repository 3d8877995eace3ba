-- `fields::header::first_lines::from_inputs` meets its contract: the inputs field, then the names.
-- Assumes nothing.
use Rattle.std.proofs.lemmas.Result.{err_from_is_err_and}
use Rattle.rules.specs.Text.{newline, newline_byte}
use Rattle.rules.specs.Sheets.Fields.{field_in}
use Rattle.rules.specs.Sheets.Sheets.{inputs_field}
use Rattle.laws.specs.Numbers.Sizes.{levels_fit_lem}
use Rattle.fields.specs.Steps.{itself}
use Rattle.fields.specs.Taken.{inputs_on}
use Rattle.fields.specs.Header.FirstLines.{from_inputs, from_names, rest_back, rest_on, from_names_lem}
use Rattle.fields.proofs.header.first_lines.from_inputs.Goals as goal

pub name_fields-requires : goal.name_fields-requires
name_fields-requires c = (inputs_on _ _ c.args.at _ c.in_ok-inputs.was _ _ _ c.inputs_field.ensures).1

pub returns-in_err-inputs : goal.returns-in_err-inputs
unfolding from_inputs newline
returns-in_err-inputs c =
    let p = err_from_is_err_and c.from_residual.result c.from_residual.ensures.1 in
    rw (p.1, p.2)
    (rest_back itself (field_in _ (inputs_field _) newline_byte) (from_names _ _ _) _ _ _ c.inputs_field.ensures _ c.in_err-inputs.was)

pub returns : goal.returns
unfolding from_inputs newline
returns c =
    let told = inputs_on _ _ c.args.at _ c.in_ok-inputs.was _ _ _ c.inputs_field.ensures in
    rest_on itself (field_in _ (inputs_field _) newline_byte) (from_names _ _ _) _ _ _ c.inputs_field.ensures _ c.name_fields.result
    c.in_ok-inputs.was (from_names_lem _ _ _ _ _ _ _ c.name_fields.ensures c.requires told.0 told.1 told.2)

pub inputs_field-requires : goal.inputs_field-requires
inputs_field-requires c = ((levels_fit_lem _).0 c.requires).1
