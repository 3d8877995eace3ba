-- What keeping a wiring answers, as four numbers, and its two buffers.
-- Assumes nothing.
use Rattle.std.specs.Prelude.{◌≡◌}
use Rattle.laws.specs.Prelude.{ℕ, List}
use Rattle.rules.specs.Calls.Keeping.{KeptWiring}
use Rattle.capi.specs.declared.numbers.kept.SitgurpKept.{SitgurpKept}
use Rattle.capi.specs.Numbers.Kept.{flat_kept}

-- what the call answers, and its two buffers
pub record FlatKept (kept : KeptWiring) (r : SitgurpKept) (cells output : List ℕ) : Type 0 where
  pub answer : r ≡ flat_kept kept.answer
  pub cells_then : cells ≡ kept.cells
  pub output_then : output ≡ kept.output
