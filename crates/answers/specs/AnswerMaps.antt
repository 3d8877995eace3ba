-- How the answers that calls share map to the definitions: the value, or the refusal's number and place.
-- Assumes nothing.
use Rattle.std.specs.Prelude.{Result, Ok, Err}
use Rattle.laws.specs.Prelude.{ℕ, List}
use Rattle.rules.specs.Calls.Answers as answers
use Rattle.rules.specs.Calls.Settling.{Made}
use Rattle.answers.specs.Kinds.{number_of}
use Rattle.answers.specs.declared.named.Named.{Named}
use Rattle.answers.specs.declared.named.Named.TheVariants as named
use Rattle.answers.specs.declared.refusal.Refusal.{Refusal}

abbrev pub refused_by : {A : Type 0} → Refusal → answers.Answer A
refused_by r = answers.refused (number_of r.kind) r.place

-- what a call returns, by the meaning of its value
abbrev pub answer_as : {A R : Type 0} → (R → A) → Result R Refusal → answers.Answer A
answer_as value (Ok r) = answers.accepted (value r)
answer_as value (Err e) = refused_by e

abbrev pub answer_of : Result ℕ Refusal → answers.Answer ℕ
answer_of r = answer_as (λ value. value) r

-- the answer, and the three buffers after the call
abbrev pub made_of : Result ℕ Refusal → List ℕ → List ℕ → List ℕ → Made
made_of r cells marks output = record { answer = answer_of r; cells = cells; marks = marks; output = output }

-- an accepted input's value, or the refusal's number and place
abbrev pub outcome_as : {A R : Type 0} → A → Result R Refusal → answers.Answer A
outcome_as a r = answer_as (λ _. a) r

abbrev pub named_of : Named → answers.Named
named_of named.Net = answers.net_named
named_of named.Table = answers.table_named
named_of named.Neither = answers.neither
