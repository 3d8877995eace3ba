-- `marks::no_tree::no_tree_place` meets its contract: the lowest group of the current size, or the search goes on. Assumes nothing.
use Rattle.laws.specs.Prelude.{◌∙◌, ◌+◌, sym, arith}
use Rattle.marks.specs.NoTreePlace.{place_here, mark_place_next, place_none, place_found, place_missing}
use Rattle.marks.proofs.no_tree.no_tree_place.Goals as goal

pub returns-in-Some : goal.returns-in-Some
returns-in-Some c =
    place_found _ _ _ (sym c.loop-k.invariant ∙ place_here _ _ c.loop-k.k (omega arith) _ c.power-end.ensures c.in-Some.ensures)

pub loop-k-preserved : goal.loop-k-preserved
loop-k-preserved c =
    mark_place_next _ _ c.loop-k.k (omega arith) _ c.power-end.ensures c.in_default.ensures ∙ c.loop-k.invariant

pub returns-in_default : goal.returns-in_default
returns-in_default c =
    let k = c.loop-k.k in
    place_missing _ _
    (sym c.loop-k.invariant ∙ sym (mark_place_next _ _ k (omega arith) _ c.power-end.ensures c.in_default.ensures) ∙ place_none _ _ (k + 1) (omega arith))
