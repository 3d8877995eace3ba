-- Document 02, K12, by small cases: inputs that never matter. Which inputs are leaves, net sheets with fewer gate lines, and how they are made,
-- settled, kept and timed. Sheets are written as in `Cases`, with `/` for the line feed.
-- Assumes nothing.
use Rattle.std.specs.Prelude.{ℕ, ◌+◌, ◌/◌, ◌%◌, ◌≡◌, refl, List, [], ◌∷◌}
use Rattle.rules.specs.Sheets.Sheets.{Table}
use Rattle.rules.specs.Sheets.Printed.{printed_table}
use Rattle.rules.specs.Nets.Leaves.{mattering, leaf_inputs, leaves_of}
use Rattle.rules.specs.Calls.Answers.{ink_in, neither}
use Rattle.rules.specs.Calls.Keeping.{rewritten, turned_away, keep_call}
use Rattle.rules.specs.Nets.Arrivals.{settling_time}
use Rattle.rules.specs.Cases.Cases.{zero_table, settles, makes, refuses, accepts, gate_count, Case, Holds}
use Rattle.rules.specs.Cases.FamilyCases.{joining}
use Rattle.rules.specs.Cases.Written.{AllHold, paper, abc, abcd, nines, writing}
use Rattle.rules.specs.Evaluation.{computing}

-- ---- which inputs are leaves

-- the inputs that matter and the leaves of a table of three inputs with 2 levels
abbrev Leaves : Table → List ℕ → List ℕ → ℕ → Type 0
Leaves t matter leaves group =
    let f = ink_in t.inks in (mattering 2 3 f ≡ matter) × (leaf_inputs 2 3 f ≡ leaves) × (leaves_of 2 3 f ≡ group)

-- a and c alone; only c, so a, the first-listed other, makes up two; none, so a and b do
pub leaves_are : Leaves (abc 2 (λ a b c. (a + c) % 2)) (0 ∷ 2 ∷ []) (0 ∷ 2 ∷ []) 5
    × Leaves (abc 2 (λ a b c. c)) (2 ∷ []) (2 ∷ 0 ∷ []) 5
    × Leaves zero_table [] (0 ∷ 1 ∷ []) 3
unfolding computing writing zero_table
leaves_are = ((refl, refl, refl), (refl, refl, refl), (refl, refl, refl))

-- ---- sheets, and nets that are made and settled

abbrev pub leaf_cases : List Case
leaf_cases =
    -- "from 1 to n − 1 gate lines, and the sheet's end closes it"
    accepts "levels inputs/2 3/a b c/left right table/a c 0110/" 1
    ∷ accepts "levels inputs/2 4/a b c d/left right table/d b 0110/1 a 0001/" 2
    ∷ refuses "levels inputs/2 3/a b c/left right table/" 1 41
    ∷ refuses "levels inputs/2 3/a b c/left right table/a b 0001/1 c 0001/a b 0001/" 1 59
    -- "inputs may stay unused, earlier gates may not": 26 at the sheet's length, of the first gate and of a later one
    ∷ refuses "levels inputs/2 4/a b c d/left right table/a b 0001/c d 0110/" 26 61
    ∷ refuses "levels inputs/2 5/a b c d e/left right table/a b 0001/1 c 0001/d e 0110/" 26 72
    -- "judged last in the net sheet": a fault after the unused gate, bytes after the last line due
    ∷ refuses "levels inputs/2 4/a b c d/left right table/a b 0001/c d 0110/2 2 0001/" 8 63
    ∷ refuses "levels inputs/2 3/a b c/left right table/a b 0001/a c 0110/" 8 50
    ∷ refuses "levels inputs/2 4/a b c d/left right table/a b 0001/c d 0110" 1 60
    -- an input that never matters is no leaf, even if the net to settle uses it
    ∷ settles "levels inputs/2 3/a b c/left right table/c a 0110/" "levels inputs/2 3/a b c/left right table/a c 0110/"
    ∷ settles "levels inputs/2 3/a b c/left right table/a b 0011/1 c 0110/" "levels inputs/2 3/a b c/left right table/a c 0110/"
    ∷ settles "levels inputs/2 4/a b c d/left right table/d c 0101/1 a 0110/" "levels inputs/2 4/a b c d/left right table/a c 0110/"
    ∷ makes (abc 2 (λ a b c. (b + c) % 2)) "levels inputs/2 3/a b c/left right table/b c 0110/"
    -- "if fewer than two do, the first-listed others make up two"
    ∷ makes (abc 2 (λ a b c. c)) "levels inputs/2 3/a b c/left right table/a c 0101/"
    ∷ makes (abc 2 (λ a b c. a)) "levels inputs/2 3/a b c/left right table/a b 0011/"
    ∷ makes (abc 2 (λ a b c. 1)) "levels inputs/2 3/a b c/left right table/a b 1111/"
    ∷ []

pub leaf_cases_hold : AllHold Holds leaf_cases
unfolding computing writing gate_count
leaf_cases_hold = (refl, (refl, (refl, (refl, (refl, (refl, (refl, (refl, (refl, (refl, (refl, (refl, (refl, (refl, (refl, (refl, tt))))))))))))))))

-- ---- a wiring kept

-- 1 when at least two of a, b and c are 1, whatever d is
unfoldable pub most_of : Table
most_of = abcd 2 (λ a b c d. (a + b + c) / 2)

-- "A kept wiring that leaves out an input that matters is refused with 23 at place 0, before its gates are judged.": c is left out, and a and b have
-- three classes
pub matters_left_out : keep_call (paper "levels inputs/2 4/a b c d/left right table/a b 0001/1 d 0110/") (printed_table most_of) (nines 16) (nines 80)
    ≡ record {
      answer = turned_away neither 23 0;
      cells = 0 ∷ 0 ∷ 0 ∷ 0 ∷ 0 ∷ 0 ∷ 1 ∷ 1 ∷ 0 ∷ 0 ∷ 1 ∷ 1 ∷ 1 ∷ 1 ∷ 1 ∷ 1 ∷ [];
      output = nines 80;
    }
unfolding computing writing most_of
matters_left_out = refl

-- an input that does not matter may stay out, and may stay in
pub idle_out : ((keep_call (paper "levels inputs/2 3/a b c/left right table/c b 0001/") (printed_table (abc 2 (λ a b c. (b + c) % 2))) (nines 8)
    (nines 50)).answer ≡ rewritten 50 2)
    × ((keep_call (paper "levels inputs/2 3/a b c/left right table/c a 0001/1 b 0110/") (printed_table (abc 2 (λ a b c. (b + c) % 2))) (nines 8)
    (nines 59)).answer ≡ rewritten 59 2)
unfolding computing writing
idle_out = (refl, refl)

-- ---- arrivals

-- "Arrival times count used inputs only.": a and b, at 3 and 4 with a delay of 5; c, at 90, is not used
pub used_only : settling_time 3 (joining 0 1 ∷ []) 5 (3 ∷ 4 ∷ 90 ∷ []) ≡ 9
unfolding computing joining
used_only = refl
