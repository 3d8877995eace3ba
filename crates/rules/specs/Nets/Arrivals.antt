-- Document 02, K5: when a net's output settles, given the arrivals at its inputs, and the call.
-- Assumes nothing.
use Rattle.std.specs.Prelude.{ℕ, ◌+◌, ◌-◌, ◌*◌, true, false, List, [], ◌∷◌, map, length, get_or, eqb, Float}
use Rattle.std.specs.Float.{binary64}
use Rattle.std.specs.Float.Ieee.{round}
use Rattle.rules.specs.Lists.{range, any, those}
use Rattle.rules.specs.Sheets.Sheets.{Gate, Net, used_by}
use Rattle.rules.specs.Nets.Layers.{with_ways, most}
use Rattle.rules.specs.Calls.Answers.{accepted, refused}
use Rattle.rules.specs.Sheets.Reading.{read_net}
use Rattle.rules.specs.Sheets.ArrivalSheet.{Arrival, earliest_of, latest_of, read_arrivals}

-- ---- whole numbers of quarters

-- The ways from input i to the inputs: one, with no gate on it, to itself.
unfoldable pub starts_at : ℕ → ℕ → List (List ℕ)
starts_at n i = map (λ j. elim (eqb j i) [ true ↦ 0 ∷ [] | false ↦ [] ]) (range 0 n)

-- The ways from input i to the output, which is the last gate, by the number of gates on each. In a net a used input has exactly one, and an unused
-- input has none.
unfoldable pub ways_from : ℕ → List Gate → ℕ → List ℕ
ways_from n gates i = get_or (with_ways (starts_at n i) gates) (n + length gates - 1) []

-- "gates on the way"
unfoldable pub gates_on_way : ℕ → List Gate → ℕ → ℕ
gates_on_way n gates i = most (ways_from n gates i)

-- the inputs that some gate refers to
unfoldable pub used_inputs : ℕ → List Gate → List ℕ
used_inputs n gates = those (λ i. any (eqb i) (used_by gates)) (range 0 n)

-- "Every gate takes one common delay". "The settling time of given arrivals is the largest, over the inputs, of arrival plus delay times gates on
-- the way." "Arrival times count used inputs only." (document 02, K12)
unfoldable pub settling_time : ℕ → List Gate → ℕ → List ℕ → ℕ
settling_time n gates delay arrivals = most (map (λ i. get_or arrivals i 0 + delay * gates_on_way n gates i) (used_inputs n gates))

-- "the earliest and latest settling of the output": with every input at its earliest, and with every input at its latest
unfoldable pub earliest_settling : Net → List Arrival → ℕ → ℕ
earliest_settling net arrivals delay = settling_time net.header.inputs net.gates delay (map earliest_of arrivals)

unfoldable pub latest_settling : Net → List Arrival → ℕ → ℕ
latest_settling net arrivals delay = settling_time net.header.inputs net.gates delay (map latest_of arrivals)

-- ---- floats

-- So many quarters of a microsecond "in microseconds, as floats": the double nearest to q / 4. `false` is its sign: not negative.
unfoldable pub quarter : ℕ → Float
unfolding round
quarter q = round binary64 false q 4

-- the two ends of the settling
pub record Ends : Type 0 where
  pub earliest : Float
  pub latest : Float

-- ---- the call

-- the two ends, or a refusal of one of the two sheets
pub data Timing : Type 0 where
  settles : Ends → Timing
  net_refused : ℕ → ℕ → Timing
  arrivals_refused : ℕ → ℕ → Timing

unfoldable pub ends_of : Net → List Arrival → ℕ → Ends
ends_of net arrivals delay =
    record { earliest = quarter (earliest_settling net arrivals delay); latest = quarter (latest_settling net arrivals delay) }

-- "The net sheet is judged first, then this one."
unfoldable pub arrivals_call : List ℕ → List ℕ → ℕ → Timing
arrivals_call net_sheet_lem arrival_sheet_lem delay =
    elim (read_net net_sheet_lem) [
      | refused number place ↦ net_refused number place
      | accepted net ↦ elim (read_arrivals net.header.names arrival_sheet_lem) [
        | refused number place ↦ arrivals_refused number place
        | accepted arrivals ↦ settles (ends_of net arrivals delay)
      ]
    ]

-- all of this file computes
unfoldable pub computing : Unit {0}
unfolding starts_at ways_from gates_on_way used_inputs settling_time earliest_settling latest_settling quarter ends_of arrivals_call
computing = tt
