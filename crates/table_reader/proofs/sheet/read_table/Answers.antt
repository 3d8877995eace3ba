-- `table_reader::sheet::read_table` meets its contract: the first lines, then the rows.
-- Assumes nothing.
use Rattle.std.proofs.lemmas.Result.{err_from_is_err_and}
use Rattle.laws.specs.Prelude.{le_trans}
use Rattle.laws.specs.Numbers.Sizes.{sized}
use Rattle.table_reader.specs.TableReading.{table_refused, table_end_refused, table_accepted}
use Rattle.table_reader.proofs.sheet.read_table.Goals as goal

pub returns-in_err-head : goal.returns-in_err-head
returns-in_err-head c =
    let p = err_from_is_err_and c.from_residual.result c.from_residual.ensures.1 in
    rw (p.1, p.2) (table_refused _ _ _ c.table_head.ensures _ c.in_err-head.was)

pub rows-last-requires : goal.rows-last-requires
rows-last-requires c =
    let fits = (c.table_head.ensures.held _ c.in_ok-head.was).fits in
    (fits, le_trans (sized _ _ fits).cells_most c.requires)

pub returns-in_err-ended : goal.returns-in_err-ended
returns-in_err-ended c =
    let p = err_from_is_err_and c.from_residual-in_err-ended.result c.from_residual-in_err-ended.ensures.1 in
    rw (p.1, p.2)
    (table_end_refused _ _ _ c.table_head.ensures _ c.in_ok-head.was _ c.rows-last.ensures _ (rw c.in_err-ended.was at c.ended.ensures))

pub returns : goal.returns
returns c = table_accepted _ _ _ c.table_head.ensures _ c.in_ok-head.was _ c.rows-last.ensures (rw c.in_ok-ended.was at c.ended.ensures)
