-- `checking::check::check` meets its contract: the refusals of reading both sheets, then 13, then the net's table and the inks.
-- Assumes nothing.
use Rattle.std.proofs.lemmas.Result.{err_from_is_err_and}
use Rattle.laws.specs.Prelude.{arith, rules}
use Rattle.accepted.specs.Taken.{held_size, cells_some, sound, own_most, front_length}
use Rattle.accepted.specs.Both.{both_long}
use Rattle.checking.specs.Both.{check_refused, cells_short, cells_long}
use Rattle.checking.proofs.check.check.Goals as goal

pub power-count-requires : goal.power-count-requires
power-count-requires c =
    let size = held_size _ _ (c.read_both.ensures.held _ c.in_ok-read.was).own.header in
    (size.levels_most, omega (arith, size.inputs_most))

pub returns-then-cells-count : goal.returns-then-cells-count
returns-then-cells-count c =
    cells_short _ _ _ _ _ c.read_both.ensures _ c.in_ok-read.was _ c.power-count.ensures c.if-cells-count.true

pub table-requires : goal.table-requires
table-requires c =
    let own = (c.read_both.ensures.held _ c.in_ok-read.was).own in
    (sound _ _ _ own, own_most _ _ _ own)

pub slice_bounds-compare_into-end : goal.slice_bounds-compare_into-end
slice_bounds-compare_into-end c =
    omega (arith, (held_size _ _ (c.read_both.ensures.held _ c.in_ok-read.was).own.header).cells_most, c.power-count.ensures)

pub slice_bounds-compare_into-end-2 : goal.slice_bounds-compare_into-end-2
slice_bounds-compare_into-end-2 c =
    omega (arith, both_long _ _ _ _ _ (c.read_both.ensures.held _ c.in_ok-read.was) _ c.power-count.ensures)

pub returns-in_err-read : goal.returns-in_err-read
returns-in_err-read c =
    let p = err_from_is_err_and c.from_residual.result c.from_residual.ensures.1 in
    rw (p.1, p.2) (check_refused _ _ _ _ _ c.read_both.ensures _ c.in_err-read.was)

pub returns : goal.returns
returns c =
    cells_long _ _ _ _ _ c.read_both.ensures _ c.in_ok-read.was _ c.power-count.ensures c.if-cells-count.false _ _ _
    c.table.ensures _
    c.compare_into.ensures
