-- `loose_sheets::reader::rows::rows` meets its contract. The loop's invariant: as many rows are read, and the rows from here are the rows from the start.
-- Assumes nothing.
use Rattle.std.proofs.lemmas.Result.{err_from_is_err_and}
use Rattle.std.specs.Prelude.{◌<◌, ◌≤◌, ◌^◌}
use Rattle.laws.specs.Prelude.{ℕ, arith, length, length-set, length-replicate}
use Rattle.rules.specs.Limits.{most_cells}
use Rattle.laws.specs.Numbers.Sizes.{Size, sized}
use Rattle.loose_sheets.specs.Fast.Frame.{frame_length}
use Rattle.loose_sheets.specs.Reader.Rows.{zeros_blank, rows_start, loose_rows_done, loose_rows_back, rows_next}
use Rattle.loose_sheets.proofs.reader.rows.rows.Goals as goal

pub lay-width-requires : goal.lay-width-requires
lay-width-requires c = (c.requires.0, record { long = length-replicate {A = ℕ} frame_length 0; blank = zeros_blank frame_length })

pub power-row-end-requires : goal.power-row-end-requires
power-row-end-requires c =
    let size : Size c.args.m c.args.n = sized _ _ c.requires.0 in
    omega (arith, size)

pub loop-row-init : goal.loop-row-init
loop-row-init c = record { marked = length-replicate {A = ℕ} most_cells 0; rows = rows_start _ _ _ _ _ _ c.requires.2 (zeros_blank most_cells) }

pub row-requires : goal.row-requires
row-requires c = (c.requires.0, c.lay-width.ensures, omega (arith, c.loop-row.invariant.marked, (sized _ _ c.requires.0).cells_most))

pub returns-in_err-read : goal.returns-in_err-read
returns-in_err-read c =
    let p = err_from_is_err_and c.from_residual.result c.from_residual.ensures.1 in
    let more : c.loop-row._row < c.args.m ^ c.args.n = omega (arith, c.loop-row-test.true, c.power-row-end.ensures) in
    rw (p.1, p.2) (loose_rows_back _ _ _ _ _ _ _ _ c.loop-row.invariant.rows more _ c.row.ensures _ c.in_err-read.was _)

pub overflow_cast-cells : goal.overflow_cast-cells
overflow_cast-cells c = omega (arith, (c.row.ensures.held _ c.in_ok-read.was).1, (sized _ _ c.requires.0).levels_most)

pub bounds-cells-read : goal.bounds-cells-read
bounds-cells-read c = omega (arith, (c.row.ensures.held _ c.in_ok-read.was).0, c.requires.1)

pub bounds-given-read : goal.bounds-given-read
bounds-given-read c = omega (arith, (c.row.ensures.held _ c.in_ok-read.was).0, (sized _ _ c.requires.0).cells_most)

pub loop-row-preserved : goal.loop-row-preserved
loop-row-preserved c =
    let more : c.loop-row._row < c.args.m ^ c.args.n = omega (arith, c.loop-row-test.true, c.power-row-end.ensures) in
    let room : c.args.m ^ c.args.n ≤ length c.loop-row.cells = omega (arith, c.requires.1) in
    let marked : c.args.m ^ c.args.n ≤ length c.loop-row.given = omega (arith, c.loop-row.invariant.marked, (sized _ _ c.requires.0).cells_most) in
    record {
      marked = simp length-set c.loop-row.invariant.marked;
      rows = rows_next _ _ _ _ _ _ _ _ c.loop-row.invariant.rows more _ c.row.ensures _ c.in_ok-read.was room marked;
    }

pub returns : goal.returns
returns c =
    loose_rows_done _ _ _ _ _ _ _ _ c.loop-row.invariant.rows (omega (arith, c.loop-row-test.false, c.power-row-end.ensures))
    (omega (arith, c.requires.1))
