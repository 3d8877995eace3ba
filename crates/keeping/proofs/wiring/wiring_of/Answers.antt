-- `keeping::wiring::wiring_of` meets its contract: the arrays are the net's. Assumes nothing.
use mathlib.Core.Path.{refl}
use Rattle.keeping.specs.Changed.{links_of_lem}
use Rattle.keeping.proofs.wiring.wiring_of.Goals as goal

pub returns : goal.returns
returns c = (refl, links_of_lem c.args.net)
