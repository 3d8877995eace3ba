-- A turn of the gate lister meets its conversion: a line, none left, or the sheet's refusal.
-- Assumes nothing.
use Rattle.laws.specs.Prelude.{rules}
use Rattle.lister.specs.Calls.{listed_as, turn_as}
use Rattle.capi.proofs.numbers.turn.SitgurpTurnFromResultOptionLineRefusal.from.Goals as goal

pub returns-in-Ok-None : goal.returns-in-Ok-None
unfolding listed_as turn_as
returns-in-Ok-None c = search rules

pub returns-in-Ok-Some : goal.returns-in-Ok-Some
unfolding listed_as turn_as
returns-in-Ok-Some c = search rules

pub returns-in-Err : goal.returns-in-Err
unfolding listed_as turn_as
returns-in-Err c = search rules
