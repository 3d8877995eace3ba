-- An answer as two numbers, as the calls for C and Rust return it.
-- Assumes nothing.
use Rattle.std.specs.Prelude.{ℕ}
use Rattle.rules.specs.Calls.Answers.{Answer, accepted, refused}
use Rattle.capi.specs.declared.numbers.flat.SitgurpAnswer.{SitgurpAnswer}

-- 0 and the value; or the refusal's number and place
abbrev pub flat_of : Answer ℕ → SitgurpAnswer
flat_of (accepted value) = record { number = 0; value = value }
flat_of (refused number place) = record { number = number; value = place }
