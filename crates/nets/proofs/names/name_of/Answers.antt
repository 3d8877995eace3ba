-- `nets::names::name_of` meets its contract: the slice of the sheet is the name.
-- Assumes nothing.
use Rattle.laws.specs.Prelude.{add-sub_cancel_left}
use Rattle.nets.specs.Forms.{name_in}
use Rattle.nets.proofs.names.name_of.Goals as goal

pub returns : goal.returns
unfolding name_in
returns c = rw add-sub_cancel_left
