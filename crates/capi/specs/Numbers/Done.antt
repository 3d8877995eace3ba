-- The answer of a call that returns only a refusal or nothing, as two numbers.
-- Assumes nothing.
use Rattle.rules.specs.Calls.Answers.{Answer, accepted, refused}
use Rattle.capi.specs.declared.numbers.flat.SitgurpAnswer.{SitgurpAnswer}

-- 0 and 0; or the refusal's number and place
abbrev pub flat_done : Answer (Unit {0}) → SitgurpAnswer
flat_done (accepted _) = record { number = 0; value = 0 }
flat_done (refused number place) = record { number = number; value = place }
