-- `wirings::fewest_layers::split_layers` meets its contract: one more than the deeper of the two. Assumes nothing.
use Rattle.laws.specs.Prelude.{arith}
use Rattle.rules.specs.Nets.Shallow.{split_layers}
use Rattle.wirings.proofs.fewest_layers.split_layers.Goals as goal

pub returns : goal.returns
unfolding split_layers
returns c = omega (arith, c.max.ensures)
