-- `radix::powers::size_fits` meets its contract: each test decides one part of `size_fits`. Assumes nothing.
use Rattle.laws.specs.Prelude.{arith}
use Rattle.std.proofs.lemmas.Grind.{common_steps}
use Rattle.rules.specs.Limits.{levels_fit, inputs_fit, cells_fit_of, size_fits}
use Rattle.radix.proofs.powers.size_fits.Goals as goal

pub returns-then-n-le-MOST_INPUTS : goal.returns-then-n-le-MOST_INPUTS
unfolding size_fits levels_fit inputs_fit cells_fit_of
returns-then-n-le-MOST_INPUTS c = grind (arith, common_steps)

pub returns-else-n-le-MOST_INPUTS : goal.returns-else-n-le-MOST_INPUTS
unfolding size_fits levels_fit inputs_fit cells_fit_of
returns-else-n-le-MOST_INPUTS c = grind (arith, common_steps)
