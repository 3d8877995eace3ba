-- `loose_sheets::tidy::tidy_loose` meets its contract: the sheet is read, then tidied.
-- Assumes nothing.
use Rattle.std.proofs.lemmas.Result.{err_from_is_err_and}
use Rattle.laws.specs.Prelude.{ℕ, sym, arith, length-replicate}
use Rattle.rules.specs.Limits.{most_cells}
use Rattle.laws.specs.Calls.Tidying.{tidy_refused}
use Rattle.loose_sheets.specs.Reader.Rows.{zeros_blank}
use Rattle.loose_sheets.specs.Tidying.{loose_taken, loose_refused, not_itself}
use Rattle.loose_sheets.proofs.tidy.tidy_loose.Goals as goal

pub read_loose-requires : goal.read_loose-requires
read_loose-requires c = (omega (arith, length-replicate {A = ℕ} most_cells 0), zeros_blank most_cells)

pub returns-in_err-header : goal.returns-in_err-header
returns-in_err-header c =
    let p = err_from_is_err_and c.from_residual.result c.from_residual.ensures.1 in
    rw (p.1, p.2) (sym (tidy_refused _ _ _ _ _ (loose_refused _ _ _ c.read_loose.ensures _ c.in_err-header.was)))

pub tidy_accepted-requires : goal.tidy_accepted-requires
tidy_accepted-requires c =
    let did = c.read_loose in
    (loose_taken _ _ _ did.ensures (omega (arith, did.auto, length-replicate {A = ℕ} most_cells 0)) _ c.in_ok-header.was, not_itself _ _ _)
