-- A turn of the gate lister as a kind and two numbers.
-- Assumes nothing.
use Rattle.rules.specs.Calls.Answers.{Answer, accepted, refused}
use Rattle.rules.specs.Calls.Lister.{Turn, gate_at, none_left_of}
use Rattle.capi.specs.declared.numbers.turn.SitgurpTurn.{SitgurpTurn}

-- a turn of the gate lister as a kind and two numbers
abbrev pub flat_turn : Answer Turn → SitgurpTurn
flat_turn (accepted none_left_of) = record { kind = 0; first = 0; second = 0 }
flat_turn (accepted (gate_at part)) = record { kind = 1; first = part.start; second = part.count }
flat_turn (refused number place) = record { kind = 2; first = number; second = place }
