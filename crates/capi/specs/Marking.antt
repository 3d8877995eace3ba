-- The marking call's answer as two numbers, and its buffer.
-- Assumes nothing.
use Rattle.std.specs.Prelude.{◌≡◌}
use Rattle.laws.specs.Prelude.{ℕ, List}
use Rattle.rules.specs.Calls.Marking.{Marked}
use Rattle.capi.specs.declared.numbers.flat.SitgurpAnswer.{SitgurpAnswer}
use Rattle.capi.specs.Numbers.Flat.{flat_of}

-- a marking's answer, and its buffer
pub record FlatMarked (marked : Marked) (r : SitgurpAnswer) (after : List ℕ) : Type 0 where
  pub answer : r ≡ flat_of marked.answer
  pub buffer : after ≡ marked.marks
