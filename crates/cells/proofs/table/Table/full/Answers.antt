-- `cells::table::Table::full` meets its contract.
-- Assumes nothing.
use Rattle.std.proofs.lemmas.Result.{err_from_is_err_and}
use Rattle.laws.specs.Prelude.{◌∙◌, sym, ap}
use Rattle.answers.specs.AnswerMaps.{outcome_as}
use Rattle.cells.specs.Full.{accepted_table}
use Rattle.cells.specs.Tables.{full_read, full_refused}
use Rattle.cells.proofs.table.Table.full.Goals as goal

pub invariant_of-result : goal.invariant_of-result
invariant_of-result c = record { full = accepted_table _ _ _ c.in_ok-full_cells.ensures }

pub returns : goal.returns
returns c = full_read _ c.in_ok-full_cells.ensures

pub returns-in_err-full_cells : goal.returns-in_err-full_cells
returns-in_err-full_cells c =
    let p = err_from_is_err_and c.from_residual.result c.from_residual.ensures.1 in
    rw (p.1, p.2) (full_refused _ _ _ _ c.in_err-full_cells.ensures)
