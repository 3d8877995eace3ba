-- The meaning of the answers of `open` and `line` in the definitions.
-- Assumes nothing.
use Rattle.std.specs.Prelude.{Option, Some, None, Result}
use Rattle.laws.specs.Prelude.{ℕ, List}
use Rattle.rules.specs.Calls.Answers.{Answer, accepted, onward}
use Rattle.rules.specs.Sheets.Reading.{read_net}
use Rattle.rules.specs.Calls.Lister.{Turn, gate_at, none_left_of}
use Rattle.answers.specs.AnswerMaps.{answer_as, answer_of}
use Rattle.answers.specs.declared.refusal.Refusal.{Refusal}
use Rattle.lister.specs.declared.turns.Line.{Line}
use Rattle.lister.specs.Places.{stands_at}

abbrev pub opened_as : Result ℕ Refusal → Answer ℕ
opened_as r = answer_of r

-- "it starts only on an accepted sheet, gives the refusal of any other"
unfoldable pub opening : List ℕ → Answer ℕ
opening s = onward (read_net s) (λ net. accepted (stands_at s 0))

unfoldable pub turn_as : Option Line → Turn
turn_as (Some line) = gate_at (record { start = line.start; count = line.count })
turn_as None = none_left_of

unfoldable pub listed_as : Result (Option Line) Refusal → Answer Turn
listed_as r = answer_as turn_as r
