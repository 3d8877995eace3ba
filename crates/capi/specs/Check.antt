-- A verdict as four numbers, and the cells buffer.
-- Assumes nothing.
use Rattle.std.specs.Prelude.{◌≡◌}
use Rattle.laws.specs.Prelude.{ℕ, List}
use Rattle.rules.specs.Calls.Checking.{Checked}
use Rattle.capi.specs.declared.numbers.verdict.SitgurpVerdict.{SitgurpVerdict}
use Rattle.capi.specs.Numbers.Verdict.{flat_verdict}

-- what checking answers, and its cells buffer
pub record FlatChecked (checked : Checked) (r : SitgurpVerdict) (cells : List ℕ) : Type 0 where
  pub answer : r ≡ flat_verdict checked.answer
  pub cells_then : cells ≡ checked.cells
