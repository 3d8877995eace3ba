-- `families::count::family_count` meets its contract. Assumes nothing.
use Rattle.std.proofs.lemmas.Result.{err_from_is_err_and}
use Rattle.std.specs.Prelude.{◌^◌}
use Rattle.laws.specs.Prelude.{◌∙◌, arith}
use Rattle.rules.specs.Limits.{most_inputs}
use Rattle.settling.specs.Outcomes.{given_size, given_count, given_below}
use Rattle.families.specs.Marked.{none_known, groups_room}
use Rattle.families.specs.Outcomes.{count_given, count_turned, input_counted}
use Rattle.families.proofs.count.family_count.Goals as goal

pub count_marked-counted-requires : goal.count_marked-counted-requires
count_marked-counted-requires c =
    let taken = (c.read_input.ensures.held _ c.in_ok-input.was).taken in
    let size = given_size _ _ _ taken.given in (
      size,
      given_count _ _ _ taken.given,
      taken.cells_long,
      groups_room _ _ size,
      taken.marks_long,
      groups_room _ _ size,
      none_known (2 ^ most_inputs),
      given_below _ _ _ taken.given,
    )

pub returns-in_err-input : goal.returns-in_err-input
returns-in_err-input c =
    let p = err_from_is_err_and c.from_residual.result c.from_residual.ensures.1 in
    let a = c.args in
    rw (p.1, p.2) (count_turned a.s.now a.cells.now a.marks.now (c.read_input.ensures.refused _ c.in_err-input.was))

pub returns : goal.returns
returns c =
    let a = c.args in
    let taken = (c.read_input.ensures.held _ c.in_ok-input.was).taken in
    count_given a.s.now c.in_ok-input.input.header _ a.cells.now a.marks.now c.count_marked-counted.result.trees _ _ _ _
    c.count_marked-counted.ensures.0 taken.room
    ∙ input_counted a.s.now a.cells.now a.marks.now _ _ taken

pub slice_bounds-count_marked-end : goal.slice_bounds-count_marked-end
slice_bounds-count_marked-end c = omega (arith, (c.read_input.ensures.held _ c.in_ok-input.was).inside)
