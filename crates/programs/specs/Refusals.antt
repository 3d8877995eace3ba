-- How long the two lines of a refusal can be.
-- Assumes nothing.
use Rattle.std.specs.Prelude.{◌<◌, ◌≤◌, ◌^◌}
use Rattle.laws.specs.Prelude.{ℕ, arith, length, length-append}
use Rattle.rules.specs.Text.{space, newline, text}
use Rattle.rules.specs.Sheets.Printed.{line}
use Rattle.rules.specs.Calls.Programs.{refusal_lines}
use Rattle.laws.specs.Numbers.Decimals.{decimal_length}

-- the length of the longest two lines, with two values of 20 digits
abbrev pub most_refusal : ℕ
most_refusal = 55

pub refusal_length : (number place : ℕ) → number < 2 ^ 64 → place < 2 ^ 64 → length (refusal_lines number place) ≤ most_refusal
unfolding line text space newline
refusal_length number place h l = simp length-append (omega (arith, decimal_length 19 number (omega arith), decimal_length 19 place (omega arith)))
