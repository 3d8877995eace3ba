-- Document 01, section 'The rest': what the two programs print.
-- Assumes nothing.
use Rattle.std.specs.Prelude.{ℕ, List, [], ◌∷◌, ◌++◌, length, take, replicate}
use Rattle.rules.specs.Text.{text, decimal}
use Rattle.rules.specs.Limits.{most_settled, most_read, most_cells, most_inputs}
use Rattle.rules.specs.Sheets.Printed.{line}
use Rattle.rules.specs.Groups.Marks.{marks_length}
use Rattle.rules.specs.Calls.Answers.{Answer, accepted, refused}
use Rattle.rules.specs.Calls.Settling.{make_call, settle_call}

-- "A refusal prints the line `number place`, then the two decimal values."
abbrev pub refusal_lines : ℕ → ℕ → List ℕ
refusal_lines number place = line (text "number" ∷ text "place" ∷ []) ++ line (decimal number ∷ decimal place ∷ [])

-- what a program prints for its call's answer and output
unfoldable pub program_output : Answer ℕ → List ℕ → List ℕ
program_output (accepted length) output = take length output
program_output (refused number place) output = refusal_lines number place

-- The programs' buffers have the largest length that any sheet needs.
abbrev pub zeros : ℕ → List ℕ
zeros k = replicate k 0

-- "*Two programs* read standard input, at most its first 65,536 bytes, which are then the sheet: one settles, one makes."
unfoldable pub settle_program : List ℕ → List ℕ
settle_program input =
    let made = settle_call (take most_read input) (zeros most_cells) (zeros (marks_length most_inputs)) (zeros most_settled) in
    program_output made.answer made.output

-- .. and one makes
unfoldable pub make_program : List ℕ → List ℕ
make_program input =
    let made = make_call (take most_read input) (zeros most_cells) (zeros (marks_length most_inputs)) (zeros most_settled) in
    program_output made.answer made.output

-- all of this file computes
unfoldable pub computing : Unit {0}
unfolding program_output settle_program make_program
computing = tt
