-- The answer as two numbers, and the output, of a call that writes only an output: table writing and glyphs.
-- Assumes nothing.
use Rattle.std.specs.Prelude.{◌≡◌}
use Rattle.laws.specs.Prelude.{ℕ, List}
use Rattle.rules.specs.Calls.TableWriting.{Written}
use Rattle.capi.specs.declared.numbers.flat.SitgurpAnswer.{SitgurpAnswer}
use Rattle.capi.specs.Numbers.Flat.{flat_of}

-- the answer, and the output
pub record FlatWritten (written : Written) (r : SitgurpAnswer) (output : List ℕ) : Type 0 where
  pub answer : r ≡ flat_of written.answer
  pub output_then : output ≡ written.output
