-- How an answer with a count of layers maps to the definitions, and with it the three buffers.
-- Assumes nothing.
use Rattle.std.specs.Prelude.{Result}
use Rattle.laws.specs.Prelude.{ℕ, List}
use Rattle.rules.specs.Calls.Answers as answers
use Rattle.rules.specs.Calls.ShallowSettling as shallow
use Rattle.answers.specs.AnswerMaps.{answer_as}
use Rattle.answers.specs.declared.layered.Layered.{Layered}
use Rattle.answers.specs.declared.refusal.Refusal.{Refusal}

abbrev pub layered_of : Result Layered Refusal → answers.Answer shallow.Layered
layered_of r = answer_as (λ made. record { length = made.length; layers = made.layers }) r

-- the answer, and the three buffers after the call
abbrev pub layered_made_of : Result Layered Refusal → List ℕ → List ℕ → List ℕ → shallow.LayeredMade
layered_made_of r cells marks output = record { answer = layered_of r; cells = cells; marks = marks; output = output }
