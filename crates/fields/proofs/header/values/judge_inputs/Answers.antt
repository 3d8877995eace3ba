-- `fields::header::values::judge_inputs` meets its contract, by what was found and the power.
-- Assumes nothing.
use Rattle.laws.specs.Prelude.{arith}
use Rattle.fields.specs.Header.Values.{inputs_none, inputs_most, field_inputs_fit, inputs_over}
use Rattle.fields.proofs.header.values.judge_inputs.Goals as goal

pub power-requires : goal.power-requires
power-requires c = (
  c.requires,
  let most =
      inputs_most _ 0 _ 0 _ c.inputs_of.ensures c.in-Some.is in omega arith,
)

pub returns-in-Some : goal.returns-in-Some
returns-in-Some c = field_inputs_fit _ _ _ _ _ c.inputs_of.ensures c.in-Some.is c.power.ensures c.if-power-le-MOST_CELLS.true

pub returns-in_default : goal.returns-in_default
returns-in_default c = inputs_over _ _ _ _ _ c.inputs_of.ensures c.in-Some.is c.power.ensures c.if-power-le-MOST_CELLS.false

pub returns-in_default-2 : goal.returns-in_default-2
returns-in_default-2 c = inputs_none _ _ _ c.inputs_of.ensures c.in_default.is
