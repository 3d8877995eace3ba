-- What tidying answers as two numbers, and its buffers.
-- Assumes nothing.
use Rattle.std.specs.Prelude.{◌≡◌}
use Rattle.laws.specs.Prelude.{ℕ, List}
use Rattle.rules.specs.Calls.Tidying.{Tidied}
use Rattle.capi.specs.declared.numbers.flat.SitgurpAnswer.{SitgurpAnswer}
use Rattle.capi.specs.Numbers.Flat.{flat_of}

-- what tidying answers, and its two buffers
pub record FlatTidied (tidied : Tidied) (r : SitgurpAnswer) (cells output : List ℕ) : Type 0 where
  pub answer : r ≡ flat_of tidied.answer
  pub cells_then : cells ≡ tidied.cells
  pub output_then : output ≡ tidied.output
