-- Document 01, section 'The rest': listing. "the gate lister walks a net sheet it has borrowed and gives one gate line at each
-- turn, as the part of the sheet that holds it without its line feed; it starts only on an accepted sheet, gives the refusal
-- of any other, and after the last line answers that none is left."
-- Assumes nothing.
use Rattle.std.specs.Prelude.{ℕ, zero, suc, ◌+◌, true, false, List, [], ◌∷◌, length, drop, eqb, ltb}
use Rattle.rules.specs.Text.{newline}
use Rattle.rules.specs.Sheets.Sheets.{Net}
use Rattle.rules.specs.Calls.Answers.{Answer, accepted, onward}
use Rattle.rules.specs.Sheets.Reading.{read_net}

-- a part of a sheet: where it starts and how long it is
pub record Part : Type 0 where
  pub start : ℕ
  pub count : ℕ

-- the length of the first line, without its line feed
unfoldable pub line_length : List ℕ → ℕ
line_length [] = zero
line_length (b ∷ s) = elim (eqb b newline) [ true ↦ zero | false ↦ suc (line_length s) ]

-- the place after `k` lines and their line feeds
unfoldable pub after_lines : List ℕ → ℕ → ℕ
after_lines s zero = zero
after_lines s (suc k) = let at = after_lines s k in at + line_length (drop at s) + 1

-- what a turn of the lister gives
pub data Turn : Type 0 where
  gate_at : Part → Turn
  none_left_of : Turn

-- Turn number k, from 0, on an accepted sheet. The gate lines follow the first four lines.
unfoldable pub turn_of : List ℕ → Net → ℕ → Turn
turn_of s net k =
    let at = after_lines s (4 + k) in
    elim (ltb k (length net.gates)) [ true ↦ gate_at (record { start = at; count = line_length (drop at s) }) | false ↦ none_left_of ]

-- a turn on any sheet
unfoldable pub listing : List ℕ → ℕ → Answer Turn
listing s k = onward (read_net s) (λ net. accepted (turn_of s net k))

-- all of this file computes
unfoldable pub computing : Unit {0}
unfolding line_length after_lines turn_of listing
computing = tt
