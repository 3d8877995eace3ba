-- `capi::multiplicity::sitgurp_multiplicity` meets its contract: it is the multiplicity call, its answer as two numbers. Assumes nothing.
use Rattle.laws.specs.Prelude.{◌∙◌, ap}
use Rattle.capi.specs.Numbers.Flat.{flat_of}
use Rattle.capi.proofs.multiplicity.sitgurp_multiplicity.Goals as goal

pub returns : goal.returns
returns c = c.from.ensures ∙ ap flat_of c.multiplicity.ensures
