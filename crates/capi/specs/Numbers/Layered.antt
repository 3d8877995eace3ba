-- An answer with a count of layers as three numbers.
-- Assumes nothing.
use Rattle.rules.specs.Calls.Answers.{Answer, accepted, refused}
use Rattle.rules.specs.Calls.ShallowSettling.{Layered}
use Rattle.capi.specs.declared.numbers.layered.SitgurpShallow.{SitgurpShallow}

-- 0, the length and the layers; or the refusal's number and place
abbrev pub flat_layered : Answer Layered → SitgurpShallow
flat_layered (accepted a) = record { number = 0; value = a.length; layers = a.layers }
flat_layered (refused number place) = record { number = number; value = place; layers = 0 }
