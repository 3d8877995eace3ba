-- `shallower::which::which_of` meets its contract: the layers of each, and then which. Assumes nothing.
use Rattle.laws.specs.Prelude.{◌∙◌, ap₂}
use Rattle.rules.specs.Calls.Shallower.{which_by, which_of}
use Rattle.shallower.proofs.which.which_of.Goals as goal

pub returns : goal.returns
unfolding which_of
returns c = c.which_by.ensures ∙ ap₂ which_by c.layers_in.ensures c.layers_in-2.ensures
