-- `settling::chosen::make_by` meets its contract. Assumes nothing.
use Rattle.std.proofs.lemmas.Result.{err_from_is_err_and}
use Rattle.laws.specs.Prelude.{◌∙◌, arith}
use Rattle.settling.specs.Calls.{makes_turned, makes_marked}
use Rattle.settling.proofs.chosen.make_by.Goals as goal

pub settle_marked-requires : goal.settle_marked-requires
settle_marked-requires c =
    let taken = (c.read_input.ensures.held _ c.in_ok-input.was).taken in
    (taken.given, taken.cells_long, taken.marks_long)

pub returns-in_err-input : goal.returns-in_err-input
returns-in_err-input c =
    let a = c.args in
    let p = err_from_is_err_and c.from_residual.result c.from_residual.ensures.1 in
    rw (p.1, p.2) (makes_turned a.choice a.s.now a.cells.now a.marks.now a.out.now (c.read_input.ensures.refused _ c.in_err-input.was))

pub returns : goal.returns
returns c =
    let a = c.args in
    c.settle_marked.ensures
    ∙ makes_marked a.choice a.s.now a.cells.now a.marks.now a.out.now _ _ (c.read_input.ensures.held _ c.in_ok-input.was).taken

pub slice_bounds-settle_marked-end : goal.slice_bounds-settle_marked-end
slice_bounds-settle_marked-end c = omega (arith, (c.read_input.ensures.held _ c.in_ok-input.was).inside)
