-- `table_reader::full::read_full` meets its contract: the sheet is refused like any table sheet, or read and its cells judged.
-- Assumes nothing.
use Rattle.std.proofs.lemmas.Result.{err_from_is_err_and}
use Rattle.laws.specs.Prelude.{sym, arith, length-take-le}
use Rattle.laws.specs.Numbers.Sizes.{sized}
use Rattle.table_reader.specs.Full.{full_refused, cells_open, full_judged, table_front_within}
use Rattle.table_reader.proofs.full.read_full.Goals as goal

pub returns-in_err-header : goal.returns-in_err-header
returns-in_err-header c =
    let p = err_from_is_err_and c.from_residual.result c.from_residual.ensures.1 in
    rw (p.1, p.2) (full_refused _ _ _ c.read_table.ensures _ c.in_err-header.was)

pub power-count-requires : goal.power-count-requires
power-count-requires c =
    let size = sized _ _ (c.read_table.ensures.held _ c.in_ok-header.was).header.fits in
    (omega (arith, size.levels_most), omega (arith, size.inputs_most))

pub slice_bounds-inks-end : goal.slice_bounds-inks-end
slice_bounds-inks-end c =
    let size = sized _ _ (c.read_table.ensures.held _ c.in_ok-header.was).header.fits in
    omega (arith, c.power-count.ensures, size.cells_most, c.read_table.auto, c.requires)

pub slice_bounds-inks-end-2 : goal.slice_bounds-inks-end-2
slice_bounds-inks-end-2 c =
    let size = sized _ _ (c.read_table.ensures.held _ c.in_ok-header.was).header.fits in
    sym (length-take-le _ _ (omega (arith, c.power-count.ensures, size.cells_most, c.read_table.auto, c.requires)))

pub judge_full-requires : goal.judge_full-requires
judge_full-requires c =
    let size = sized _ _ (c.read_table.ensures.held _ c.in_ok-header.was).header.fits in
    (size.levels_most, table_front_within _ _ _ c.read_table.ensures _ c.in_ok-header.was _ c.power-count.ensures)

pub returns-in_err-judge_full : goal.returns-in_err-judge_full
returns-in_err-judge_full c =
    let p = err_from_is_err_and c.from_residual-in_err-judge_full.result c.from_residual-in_err-judge_full.ensures.1 in
    rw (p.1, p.2)
    (cells_open _ _ _ c.read_table.ensures _ c.in_ok-header.was _ c.power-count.ensures _ (rw c.in_err-judge_full.was at c.judge_full.ensures))

pub returns : goal.returns
returns c = full_judged _ _ _ c.read_table.ensures _ c.in_ok-header.was _ c.power-count.ensures (rw c.in_ok-judge_full.was at c.judge_full.ensures)
