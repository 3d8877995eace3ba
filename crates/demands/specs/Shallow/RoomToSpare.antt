-- Document 02, K2: "Among equally shallow trees each group takes the part A of lowest number that keeps its own group shallowest." An example: a
-- group that could be deeper without deepening the whole is still as shallow as it can be.
-- Assumes nothing.
use Rattle.std.specs.Prelude.{◌+◌, ◌-◌, ◌*◌, ◌%◌}
use Rattle.laws.specs.Prelude.{ℕ, refl, get_or}
use Rattle.rules.specs.Sheets.Sheets.{Table}
use Rattle.rules.specs.Cases.ShallowCases.{ShallowHolds, makes, on, wrote_in}
use Rattle.rules.specs.Cases.Written.{line_ends, paper, letter_names, by_rule}
use Rattle.rules.specs.Evaluation.{computing}

-- an odd number of a b c d, or e and exactly one of f and (g and h)
unfoldable pub eight : Table
eight =
    by_rule 2 8 (letter_names "abcdefgh")
    (λ ls.
    let at : ℕ → ℕ = λ i. get_or ls i 0 in
    let x = (at 0 + at 1 + at 2 + at 3) % 2 in
    let y = at 4 * ((at 5 + at 6 * at 7) % 2) in
    x + y - x * y)

-- the first four take two layers, although three would do
pub room_to_spare : ShallowHolds
    (makes eight "levels inputs/2 8/a b c d e f g h/left right table/a b 0110/c d 0110/1 2 0110/g h 0001/f 4 0110/e 5 0001/3 6 0111/" 4)
unfolding computing line_ends paper letter_names by_rule eight wrote_in on
room_to_spare = refl
