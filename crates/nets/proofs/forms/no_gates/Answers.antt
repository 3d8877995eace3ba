-- `nets::forms::no_gates` meets its contract.
-- Assumes nothing.
use mathlib.Core.Path.{refl}
use Rattle.nets.specs.Forms.{no_gates}
use Rattle.nets.proofs.forms.no_gates.Goals as goal

pub returns : goal.returns
unfolding no_gates
returns c = refl
