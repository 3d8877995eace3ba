-- `families::tree::family_tree` meets its contract. Assumes nothing.
use Rattle.std.proofs.lemmas.Result.{err_from_is_err_and}
use Rattle.laws.specs.Prelude.{◌∙◌, arith}
use Rattle.families.specs.Outcomes.{tree_turned, input_numbered}
use Rattle.families.proofs.tree.family_tree.Goals as goal

pub returns-in_err-input : goal.returns-in_err-input
returns-in_err-input c =
    let p = err_from_is_err_and c.from_residual.result c.from_residual.ensures.1 in
    let a = c.args in
    rw (p.1, p.2) (tree_turned a.s.now a.cells.now a.marks.now a.order a.out.now (c.read_input.ensures.refused _ c.in_err-input.was))

pub returns : goal.returns
returns c =
    let a = c.args in
    c.tree_marked.ensures
    ∙ input_numbered a.s.now a.cells.now a.marks.now a.order a.out.now _ _
    (c.read_input.ensures.held _ c.in_ok-input.was).taken

pub slice_bounds-inks-end : goal.slice_bounds-inks-end
slice_bounds-inks-end c = omega (arith, (c.read_input.ensures.held _ c.in_ok-input.was).inside)
