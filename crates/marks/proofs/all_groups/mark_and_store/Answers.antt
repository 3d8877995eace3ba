-- `marks::all_groups::mark_and_store` meets its contract. Assumes nothing.
use Rattle.laws.specs.Prelude.{arith}
use Rattle.laws.specs.Numbers.Sizes.{sized}
use Rattle.marks.specs.Marking.{marked_small}
use Rattle.marks.proofs.all_groups.mark_and_store.Goals as goal

pub store-requires : goal.store-requires
store-requires c =
    let fit = sized c.args.m c.args.n c.requires.0.size in (
      fit.inputs_least,
      omega (arith, fit.inputs_most),
      omega (arith, c.requires.1, c.mark_all-marked.auto.marks),
      marked_small c.mark_all-marked.ensures.0 (omega (arith, fit.levels_least)),
      c.requires.2,
    )
