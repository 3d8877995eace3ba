-- `marks::all_groups::mark_all` meets its contract: the arrays are long enough either way. Assumes nothing.
use Rattle.laws.specs.Prelude.{arith, lit<}
use Rattle.laws.specs.Numbers.Sizes.{sized}
use Rattle.marks.specs.Fast.Below.{lent_small, lent_large}
use Rattle.marks.proofs.all_groups.mark_all.Goals as goal

pub power-requires : goal.power-requires
power-requires c = let fit = sized c.args.m c.args.n c.requires.0.size in omega (arith, fit.levels_most, fit.inputs_most)

pub mark_in-requires : goal.mark_in-requires
mark_in-requires c =
    (c.requires.0, c.requires.1, lent_small (sized _ _ c.requires.0.size) c.if-n-le-FEW_INPUTS.true (omega (arith, c.power.ensures)), lit< tt)

pub mark_in-requires-else-n-le-FEW_INPUTS : goal.mark_in-requires-else-n-le-FEW_INPUTS
mark_in-requires-else-n-le-FEW_INPUTS c = (c.requires.0, c.requires.1, lent_large (sized _ _ c.requires.0.size), lit< tt)
