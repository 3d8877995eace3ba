-- `capi::gate_line::sitgurp_gate_line` meets its contract: it is the lister's turn as a kind and two numbers. Assumes nothing.
use Rattle.laws.specs.Prelude.{◌∙◌, ap}
use Rattle.capi.specs.Numbers.Turn.{flat_turn}
use Rattle.capi.proofs.gate_line.sitgurp_gate_line.Goals as goal

pub returns : goal.returns
returns c = c.from.ensures ∙ ap flat_turn c.line.ensures
