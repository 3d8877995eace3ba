-- `loose_sheets::tidy::tidy` meets its contract: the sheet is read as strict, or else as loose.
-- Assumes nothing.
use Rattle.laws.specs.Prelude.{ℕ, arith, length-replicate}
use Rattle.rules.specs.Limits.{most_cells}
use Rattle.loose_sheets.specs.Tidying.{strict_taken, strict_itself}
use Rattle.loose_sheets.proofs.tidy.tidy.Goals as goal

pub tidy_accepted-requires : goal.tidy_accepted-requires
tidy_accepted-requires c =
    let did = c.read_table in
    let is = c.in-Ok.is in
    (strict_taken _ _ _ did.ensures _ is (omega (arith, did.auto, length-replicate {A = ℕ} most_cells 0)), strict_itself _ _ _ did.ensures _ is)
