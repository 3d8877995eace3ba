-- The numbers and places with which an arrival sheet is refused, and the bytes that decide it.
-- Assumes nothing.
use Rattle.std.specs.Prelude.{◌&&◌, ◌∷◌}
use Rattle.laws.specs.Prelude.{ℕ, refl, List, [], leb}
use Rattle.rules.specs.Limits.{most_time}
use Rattle.rules.specs.Lists.{any, same}
use Rattle.rules.specs.Sheets.Fields.{strict}
use Rattle.rules.specs.Text.{value_of, is_decimal}
use Rattle.rules.specs.Sheets.ArrivalSheet.{next_name, time_field, arrival_sheet, read_arrivals}
use Rattle.laws.specs.Lists.Distinct.{In}
use Rattle.readback.specs.Readers.Among.{Among, AmongJudge, Refuses, test_bad, among_word, among_closed, among_answer}
use Rattle.readback.specs.Readers.Fronts.{FromFront, front_closed}
use Rattle.readback.specs.Readers.Walks.{among_composes, front_composes, arrivals_walk}
use Rattle.readback.specs.Readers.Refused.{JudgedFromFront, judged_from_front}

-- ---- the numbers: 1, 18 and 19

abbrev pub arrival_numbers : List ℕ
arrival_numbers = 1 ∷ 18 ∷ 19 ∷ []

module _ (one : In 1 arrival_numbers) (eighteen : In 18 arrival_numbers) (nineteen : In 19 arrival_numbers) where
  among_next : (name : List ℕ) → AmongJudge arrival_numbers (next_name name)
  unfolding next_name
  among_next name w k e = test_bad arrival_numbers one (same w name) tt 18 k eighteen e

  among_time : (least : ℕ) → AmongJudge arrival_numbers (time_field least)
  unfolding time_field
  among_time least w k e =
      let time = value_of 0 w in
      test_bad arrival_numbers one (is_decimal w && leb time most_time && leb least time) time 19 k nineteen e

  among_arrivals : (names : List (List ℕ)) → Among arrival_numbers (arrival_sheet names)
  among_arrivals = arrivals_walk (among_composes arrival_numbers one strict) (among_word arrival_numbers one) among_next among_time
      (among_closed arrival_numbers one)

pub arrivals_refusal : (names : List (List ℕ)) → Refuses arrival_numbers (read_arrivals names)
unfolding read_arrivals any
arrivals_refusal names = among_answer arrival_numbers (arrival_sheet names) (among_arrivals refl refl refl names)

-- ---- judged from the front, field by field

front_arrivals : (names : List (List ℕ)) → FromFront (arrival_sheet names)
front_arrivals = arrivals_walk front_composes (λ _. tt) (λ _. tt) (λ _. tt) front_closed

pub arrivals_judged : (names : List (List ℕ)) → JudgedFromFront (read_arrivals names)
unfolding read_arrivals
arrivals_judged names = judged_from_front (front_arrivals names)
