-- Document 02, K5: the arrival sheet, field by field, with the number and the place of every refusal; its print; and its rules stated without a
-- reader. "A sheet has the line `name from to`, then one line an input in order, whole numbers of quarter microseconds, 0 to 65,535."
-- Assumes nothing.
use Rattle.std.specs.Prelude.{ℕ, ◌≤◌, ◌<◌, ◌≡◌, true, false, ◌&&◌, List, [], ◌∷◌, ◌++◌, length, eqb, leb}
use Rattle.rules.specs.Lists.{same}
use Rattle.rules.specs.Text.{space, newline, text, decimal, value_of, is_decimal}
use Rattle.rules.specs.Limits.{most_time}
use Rattle.rules.specs.Sheets.Fields.{Reader, ◌>>=◌, give, Judge, judged, field, the_word, closed}
use Rattle.rules.specs.Sheets.Printed.{line}
use Rattle.rules.specs.Calls.Answers.{Answer}
use Rattle.rules.specs.Sheets.Reading.{answered}

-- "An arrival is either a fixed time or an earliest and a latest"
pub data Arrival : Type 0 where
  fixed : ℕ → Arrival
  between : ℕ → ℕ → Arrival

-- ".. fixed when `to` is `from`."
unfoldable pub arrival_of : ℕ → ℕ → Arrival
arrival_of from to = elim (eqb to from) [ true ↦ fixed from | false ↦ between from to ]

-- its two ends
abbrev pub earliest_of : Arrival → ℕ
earliest_of (fixed time) = time
earliest_of (between from to) = from

abbrev pub latest_of : Arrival → ℕ
latest_of (fixed time) = time
latest_of (between from to) = to

-- ---- the reader

-- 18: "name isn't the next input"
unfoldable pub next_name : List ℕ → Judge (Unit {0})
next_name name w = judged (same w name) tt 18

-- 19: "time malformed or above 65,535, or `to` below `from`": `least` is 0 for `from`, and `from` for `to`
unfoldable pub time_field : ℕ → Judge ℕ
time_field least w = let time = value_of 0 w in judged (is_decimal w && leb time most_time && leb least time) time 19

-- the line of one input
unfoldable pub arrival_line : List ℕ → Reader Arrival
arrival_line name = do
  _ ← field (next_name name) space
  from ← field (time_field 0) space
  to ← field (time_field from) newline
  give (arrival_of from to)

-- "one line an input in order", after the arrivals read before
unfoldable pub arrival_lines : List (List ℕ) → List Arrival → Reader (List Arrival)
arrival_lines [] earlier = give earlier
arrival_lines (name ∷ names) earlier = arrival_line name >>= λ arrival. arrival_lines names (earlier ++ (arrival ∷ []))

-- the whole sheet, for inputs with these names. "both judged field by field as in document 01, layout still 1."
unfoldable pub arrival_sheet : List (List ℕ) → Reader (List Arrival)
arrival_sheet names = do
  _ ← field (the_word "name") space
  _ ← field (the_word "from") space
  _ ← field (the_word "to") newline
  arrivals ← arrival_lines names []
  _ ← closed
  give arrivals

-- read to its end or to its refusal
unfoldable pub read_arrivals : List (List ℕ) → List ℕ → Answer (List Arrival)
read_arrivals names s = answered (arrival_sheet names s 0)

-- ---- the other way

-- the line of an input
unfoldable pub printed_arrival : List ℕ → Arrival → List ℕ
printed_arrival name arrival = line (name ∷ decimal (earliest_of arrival) ∷ decimal (latest_of arrival) ∷ [])

-- the lines of all inputs
unfoldable pub printed_arrivals : List (List ℕ) → List Arrival → List ℕ
printed_arrivals [] arrivals = []
printed_arrivals (name ∷ names) [] = []
printed_arrivals (name ∷ names) (arrival ∷ arrivals) = printed_arrival name arrival ++ printed_arrivals names arrivals

-- the sheet
unfoldable pub printed_arrival_sheet : List (List ℕ) → List Arrival → List ℕ
printed_arrival_sheet names arrivals = line (text "name" ∷ text "from" ∷ text "to" ∷ []) ++ printed_arrivals names arrivals

-- ---- the rules without a reader

-- times within the bound; a range has a `to` above its `from`
abbrev pub ArrivalRules : Arrival → Type 0
ArrivalRules (fixed time) = time ≤ most_time
ArrivalRules (between from to) = (from < to) × (to ≤ most_time)

-- the rules for every arrival
abbrev pub EachArrivalRules : List Arrival → Type 0
EachArrivalRules [] = Unit {0}
EachArrivalRules (arrival ∷ arrivals) = ArrivalRules arrival × EachArrivalRules arrivals

-- one arrival for each input, and each follows the rules
pub record ArrivalSheetRules (names : List (List ℕ)) (arrivals : List Arrival) : Type 0 where
  pub count : length arrivals ≡ length names
  pub each : EachArrivalRules arrivals

-- all of this file computes
unfoldable pub computing : Unit {0}
unfolding arrival_of next_name time_field arrival_line arrival_lines arrival_sheet read_arrivals printed_arrival printed_arrivals printed_arrival_sheet
computing = tt
