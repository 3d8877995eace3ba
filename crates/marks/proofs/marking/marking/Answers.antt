-- `marks::marking::marking` meets its contract: the refusal of the bare cells, or the result of marking. Assumes nothing.
use Rattle.std.proofs.lemmas.Result.{err_from_is_err_and}
use Rattle.laws.specs.Prelude.{◌∙◌}
use Rattle.cells.specs.Full.{accepted_full}
use Rattle.marks.specs.Marked.{marking_refused, marking_judged}
use Rattle.marks.proofs.marking.marking.Goals as goal

pub mark_into-requires : goal.mark_into-requires
mark_into-requires c = accepted_full _ _ _ c.in_ok-full_cells.ensures

pub returns-in_err-full_cells : goal.returns-in_err-full_cells
returns-in_err-full_cells c =
    let p = err_from_is_err_and c.from_residual.result c.from_residual.ensures.1 in
    rw (p.1, p.2) (marking_refused _ _ _ _ _ _ c.in_err-full_cells.ensures)

pub returns : goal.returns
returns c = c.mark_into.ensures ∙ marking_judged _ _ _ _ c.in_ok-full_cells.ensures
