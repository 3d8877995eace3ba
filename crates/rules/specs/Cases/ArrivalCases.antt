-- Document 02, K5, by small cases: when an output settles, in quarters of a microsecond and as doubles; which sheet is judged first. Sheets are
-- written as in `Cases`, with `/` for the line feed.
-- Assumes nothing.
use Rattle.std.specs.Prelude.{ℕ, ◌≡◌, refl, List, [], ◌∷◌, drop}
use Prim.Native.String.{String}
use Rattle.std.specs.Float.{binary64}
use Rattle.std.specs.Float.Ieee.{to_bits}
use Rattle.rules.specs.Calls.Answers.{Answer, accepted, onward}
use Rattle.rules.specs.Sheets.Reading.{read_net}
use Rattle.rules.specs.Sheets.ArrivalSheet.{read_arrivals}
use Rattle.rules.specs.Nets.Arrivals.{Timing, settles, net_refused, arrivals_refused, quarter, earliest_settling, latest_settling, arrivals_call}
use Rattle.rules.specs.Cases.Written.{AllHold, paper, writing}
use Rattle.rules.specs.Evaluation.{computing}

-- ---- what a case says

-- the two settling times in quarters, if both sheets are accepted
unfoldable pub quarters_in : List ℕ → List ℕ → ℕ → Answer (List ℕ)
quarters_in net_sheet_lem arrival_sheet_lem delay =
    onward (read_net net_sheet_lem) (λ net. onward (read_arrivals net.header.names arrival_sheet_lem) (λ arrivals.
    accepted (earliest_settling net arrivals delay ∷ latest_settling net arrivals delay ∷ [])))

-- the bits of the two doubles that the call returns; empty if it refuses
unfoldable pub bits_in : Timing → List ℕ
bits_in (settles ends) = to_bits binary64 ends.earliest ∷ to_bits binary64 ends.latest ∷ []
bits_in (net_refused number place) = []
bits_in (arrivals_refused number place) = []

-- what a case may say
pub data ArrivalCase : Type 0 where
  settles_between : (net_sheet_lem arrival_sheet_lem : String) (delay earliest latest : ℕ) → ArrivalCase
  answers : (net_sheet_lem arrival_sheet_lem : String) (delay earliest latest : ℕ) → ArrivalCase
  double : (quarters bits : ℕ) → ArrivalCase
  net_back : (net_sheet_lem arrival_sheet_lem : String) (number place : ℕ) → ArrivalCase
  arrivals_back : (net_sheet_lem arrival_sheet_lem : String) (number place : ℕ) → ArrivalCase

-- The common statement: what each case says.
abbrev pub ArrivalHolds : ArrivalCase → Type 0
-- the two settling times in quarters
ArrivalHolds (settles_between net_sheet_lem arrival_sheet_lem delay earliest latest) =
    quarters_in (paper net_sheet_lem) (paper arrival_sheet_lem) delay ≡ accepted (earliest ∷ latest ∷ [])
-- the call's answer by the bits of the two doubles
ArrivalHolds (answers net_sheet_lem arrival_sheet_lem delay earliest latest) =
    bits_in (arrivals_call (paper net_sheet_lem) (paper arrival_sheet_lem) delay) ≡ earliest ∷ latest ∷ []
-- the bits of a number of quarters as a double
ArrivalHolds (double quarters bits) = to_bits binary64 (quarter quarters) ≡ bits
-- the sheet that is refused, for every delay
ArrivalHolds (net_back net_sheet_lem arrival_sheet_lem number place) = (delay : ℕ) → arrivals_call (paper net_sheet_lem) (paper arrival_sheet_lem) delay ≡ net_refused number place
ArrivalHolds (arrivals_back net_sheet_lem arrival_sheet_lem number place) =
    (delay : ℕ) → arrivals_call (paper net_sheet_lem) (paper arrival_sheet_lem) delay ≡ arrivals_refused number place

-- b and c pass two gates, a passes one
abbrev pub three : String
three = "levels inputs/2 3/a b c/left right table/b c 0110/a 1 0110/"

-- a and b pass all ten gates
abbrev pub ten_gates : String
ten_gates =
    "levels inputs/2 11/a b c d e f g h i j k/left right table/a b 0110/1 c 0110/2 d 0110/3 e 0110/4 f 0110/5 g 0110/6 h 0110/7 i 0110/8 j 0110/9 k 0110/"

-- every input at any time
abbrev pub wide : String
wide = "name from to/a 0 65535/b 0 65535/c 0 65535/d 0 65535/e 0 65535/f 0 65535/g 0 65535/h 0 65535/i 0 65535/j 0 65535/k 0 65535/"

abbrev pub arrival_cases : List ArrivalCase
arrival_cases =
    -- c determines the earliest time, b the latest
    settles_between three "name from to/a 0 0/b 4 6/c 5 5/" 2 9 10
    -- a, which arrives late, determines the earliest time: 10 and one gate, against 0 and two
    ∷ settles_between three "name from to/a 10 10/b 0 20/c 0 0/" 4 14 28
    -- only fixed times: one time
    ∷ settles_between three "name from to/a 7 7/b 7 7/c 7 7/" 0 7 7
    -- all at 0 and a delay of 1: the layers
    ∷ settles_between three "name from to/a 0 0/b 0 0/c 0 0/" 1 2 2
    -- the largest time and the largest delay
    ∷ settles_between ten_gates wide 255 2_550 68_085
    -- the same as the call returns it: 3.5 and 7 microseconds, 637.5 and 17,021.25
    ∷ answers three "name from to/a 10 10/b 0 20/c 0 0/" 4 0x400c_0000_0000_0000 0x401c_0000_0000_0000
    ∷ answers ten_gates wide 255 0x4083_ec00_0000_0000 0x40d0_9f50_0000_0000
    -- 0, 0.25, 1 and 12.75 microseconds
    ∷ double 0 0
    ∷ double 1 0x3fd0_0000_0000_0000
    ∷ double 4 0x3ff0_0000_0000_0000
    ∷ double 51 0x4029_8000_0000_0000
    -- "The net sheet is judged first, then this one.": both are refused, the net sheet at its end
    ∷ net_back "levels inputs/2 2/" "name from/" 1 18
    -- the inputs' order is the net sheet's
    ∷ arrivals_back three "name from to/b 4 6/" 18 13
    -- the field before the byte after it
    ∷ arrivals_back three "name from to/b/" 18 13
    ∷ arrivals_back three "name from to/a 3 2 " 19 17
    -- nothing may follow the last line
    ∷ arrivals_back three "name from to/a 0 0/b 0 0/c 0 0/d 0 0/" 1 31
    ∷ []

pub arrival_cases_hold : AllHold ArrivalHolds arrival_cases
unfolding computing writing to_bits quarters_in bits_in
arrival_cases_hold =
    (refl, (refl, (refl, (refl, (refl, (refl, (refl, (refl, (refl, (refl, (refl, (λ _. refl, (λ _. refl, (λ _. refl, (λ _. refl, second)))))))))))))))
  where
    second : AllHold ArrivalHolds (drop 15 arrival_cases)
    second = (λ _. refl, tt)
