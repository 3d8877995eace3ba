-- `marks::no_tree::lowest_one` meets its contract: the current group is the first, or the search goes on. Assumes nothing.
use Rattle.laws.specs.Prelude.{◌∙◌, sym, arith}
use Rattle.marks.specs.NoTreePlace.{lowest_here, lowest_next, lowest_past}
use Rattle.marks.proofs.no_tree.lowest_one.Goals as goal

pub returns-then-is_one_of : goal.returns-then-is_one_of
returns-then-is_one_of c =
    sym c.loop-g.invariant ∙ lowest_here _ _ _ _ _ c.loop-g-test.true (sym c.is_one_of.ensures ∙ c.if-is_one_of.true)

pub loop-g-preserved : goal.loop-g-preserved
loop-g-preserved c = lowest_next _ _ _ _ _ c.loop-g-test.true (sym c.is_one_of.ensures ∙ c.if-is_one_of.false) ∙ c.loop-g.invariant

pub returns : goal.returns
returns c = sym c.loop-g.invariant ∙ lowest_past _ _ _ _ _ (omega arith)
