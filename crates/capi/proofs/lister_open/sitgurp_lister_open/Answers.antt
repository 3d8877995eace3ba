-- `capi::lister_open::sitgurp_lister_open` meets its contract: it is the lister's opening as two numbers. Assumes nothing.
use Rattle.laws.specs.Prelude.{◌∙◌, ap}
use Rattle.capi.specs.Numbers.Flat.{flat_of}
use Rattle.capi.proofs.lister_open.sitgurp_lister_open.Goals as goal

pub returns : goal.returns
returns c = c.from.ensures ∙ ap flat_of c.open.ensures
