-- `nets::forms::no_names` meets its contract.
-- Assumes nothing.
use mathlib.Core.Path.{refl}
use Rattle.nets.specs.Forms.{no_names_of}
use Rattle.nets.proofs.forms.no_names.Goals as goal

pub returns : goal.returns
unfolding no_names_of
returns c = refl
