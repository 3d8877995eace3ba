-- Document 02, K10, by small cases: a wiring kept. Sheets are written as in `Cases`, with `/` for the line feed.
-- Assumes nothing.
use Rattle.std.specs.Prelude.{ℕ, ◌+◌, ◌*◌, ◌%◌, ◌≡◌, refl, [], ◌∷◌, take, leb}
use Prim.Native.String.{String}
use Rattle.rules.specs.Sheets.Sheets.{Table}
use Rattle.rules.specs.Sheets.Printed.{printed_table}
use Rattle.rules.specs.Calls.Answers.{neither}
use Rattle.rules.specs.Calls.Keeping.{rewritten, turned_away, keep_call}
use Rattle.rules.specs.Cases.Cases.{zero_table}
use Rattle.rules.specs.Cases.Written.{paper, abc, abcd, one_if, nines, writing}
use Rattle.rules.specs.Evaluation.{computing}

-- the net sheet kept for the table: the length of what is written, the set of the gates that changed, and the sheet
abbrev Keeps : String → Table → ℕ → ℕ → String → Type 0
Keeps net_sheet_lem t length changed sheet =
    let kept = keep_call (paper net_sheet_lem) (printed_table t) (nines 27) (nines 80) in
    (kept.answer ≡ rewritten length changed) × (take length kept.output ≡ paper sheet)

-- a + 2 · b + c, of 3 levels
unfoldable pub weighted : Table
weighted = abc 3 (λ a b c. (a + 2 * b + c) % 3)

-- Sides and line order stay: the settled net has `b c` first. The classes of b and c are numbered with b slowest on either side. Only gate 1 changed.
pub sides_stay : Keeps "levels inputs/3 3/a b c/left right table/c b 000000000/a 1 012120201/" weighted 69 2
    "levels inputs/3 3/a b c/left right table/c b 021102210/a 1 012120201/"
unfolding computing writing weighted
sides_stay = (refl, refl)

-- "A digit that no assignment reaches is 0.", whatever it was before: both gates changed
pub free_digits : Keeps "levels inputs/2 3/a b c/left right table/a b 0001/1 c 0011/" zero_table 59 6
    "levels inputs/2 3/a b c/left right table/a b 0000/1 c 0000/"
unfolding computing writing zero_table
free_digits = (refl, refl)

-- kept again, no gate has changed: the empty set is 0
pub none_changed_case : Keeps "levels inputs/3 3/a b c/left right table/c b 021102210/a 1 012120201/" weighted 69 0
    "levels inputs/3 3/a b c/left right table/c b 021102210/a 1 012120201/"
unfolding computing writing weighted
none_changed_case = (refl, refl)

-- 1 when at least two of a + b, c and d are 1, where a + b is taken modulo 2
unfoldable pub two_of_three : Table
two_of_three = abcd 2 (λ a b c d. one_if (leb 2 ((a + b) % 2 + c + d)))

-- "place the number of the first gate whose group has more than m classes": the group of gate 1 is a and b, that of gate 2 is a, b and c
pub second_gate : keep_call (paper "levels inputs/2 4/a b c d/left right table/a b 0110/c 1 0001/2 d 0001/") (printed_table two_of_three) (nines 17) (nines 80)
    ≡ record {
      answer = turned_away neither 23 2;
      cells = 0 ∷ 0 ∷ 0 ∷ 1 ∷ 0 ∷ 1 ∷ 1 ∷ 1 ∷ 0 ∷ 1 ∷ 1 ∷ 1 ∷ 0 ∷ 0 ∷ 0 ∷ 1 ∷ 9 ∷ [];
      output = nines 80;
    }
unfolding computing writing two_of_three
second_gate = refl
