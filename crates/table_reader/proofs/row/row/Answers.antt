-- `table_reader::row::row` meets its contract. The loop's invariant: the levels from here are the levels from the start.
-- Assumes nothing.
use Rattle.std.proofs.lemmas.Result.{err_from_is_err_and}
use Rattle.table_reader.specs.Row.{row_back, table_row_next, row_done}
use Rattle.table_reader.proofs.row.row.Goals as goal

pub returns-in_err-place : goal.returns-in_err-place
returns-in_err-place c =
    let p = err_from_is_err_and c.from_residual.result c.from_residual.ensures.1 in
    rw (p.1, p.2)
    (row_back _ _ _ _ _ c.loop-level.invariant c.loop-level-test.true _ c.level_field.ensures _ _ c.in_err-place.was)

pub loop-level-preserved : goal.loop-level-preserved
loop-level-preserved c =
    table_row_next _ _ _ _ _ c.loop-level.invariant c.loop-level-test.true _ c.level_field.ensures _ c.in_ok-place.was

pub returns : goal.returns
returns c = row_done _ _ _ _ _ c.loop-level.invariant _ c.ink_field.result c.loop-level-test.false c.ink_field.ensures
