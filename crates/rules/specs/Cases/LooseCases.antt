-- Document 02, K8, by small cases: what tidying makes of a loose sheet, and why it refuses one. Sheets are written as in `Cases`, with `/` for the
-- line feed.
-- Assumes nothing.
use Rattle.std.specs.Prelude.{ℕ, ◌≡◌, refl, List, [], ◌∷◌, drop, length}
use Prim.Native.String.{String}
use Rattle.rules.specs.Text.{text}
use Rattle.rules.specs.Calls.Answers.{accepted, refused, written}
use Rattle.rules.specs.Sheets.LooseSheet.{read_loose}
use Rattle.rules.specs.Calls.Tidying.{tidy_call}
use Rattle.rules.specs.Cases.Written.{AllHold, paper, digits, nines, writing}
use Rattle.rules.specs.Evaluation.{computing}

-- what a case may say
pub data LooseCase : Type 0 where
  tidies : (sheet tidied inks : String) → LooseCase
  back : (sheet : String) (number place : ℕ) → LooseCase

-- The common statement: what each case says.
abbrev pub LooseHolds : LooseCase → Type 0
-- the answer, and both buffers, which keep their further bytes
LooseHolds (tidies sheet tidied inks) =
    tidy_call (paper sheet) (nines 10) (nines 100)
    ≡ record {
      answer = accepted (length (paper tidied));
      cells = written (nines 10) (digits (text inks));
      output = written (nines 100) (paper tidied);
    }
-- a sheet that is refused
LooseHolds (back sheet number place) = read_loose (paper sheet) ≡ refused number place

abbrev pub loose_cases : List LooseCase
loose_cases =
    -- "A strict sheet comes back unchanged"
    tidies "levels inputs/2 2/a b ink/0 0 0/0 1 0/1 0 0/1 1 1/" "levels inputs/2 2/a b ink/0 0 0/0 1 0/1 0 0/1 1 1/" "0001"
    -- "one or more spaces between fields, spaces before a line feed, rows in any order"
    ∷ tidies "levels  inputs   /2       2/a b  ink /1 1    1 /0 0    0/1 0    0/0 1    0  /" "levels inputs/2 2/a b ink/0 0 0/0 1 0/1 0 0/1 1 1/" "0001"
    -- the last input is the fastest
    ∷ tidies "levels inputs/3 2/q p ink/2 2 0/2 1 1/2 0 2/1 2 0/1 1 0/1 0 1/0 2 2/0 1 2/0 0 1/"
    "levels inputs/3 2/q p ink/0 0 1/0 1 2/0 2 2/1 0 1/1 1 0/1 2 0/2 0 2/2 1 1/2 2 0/" "122100210"
    -- "a space that starts a line is 1 there"
    ∷ back " levels inputs/" 1 0
    ∷ back "levels inputs/  2 2/" 1 14
    ∷ back "levels inputs/2 2/a b ink/0 0 0/ 0 1 0/" 1 32
    -- "elsewhere 1 is placed after any spaces passed": where a field is due, at a line feed and at the end; where a line feed is due
    ∷ back "levels   /" 1 9
    ∷ back "levels inputs/2 2/a b ink/0 0   /" 1 32
    ∷ back "levels inputs/2 2/a b ink/0  " 1 29
    ∷ back "levels inputs/2 2   3/" 1 20
    ∷ back "levels inputs/2 2/a b ink/0 0 0  " 1 33
    -- no space where one is due
    ∷ back "levels/" 1 6
    -- "an input field that is no digit below m is 5"
    ∷ back "levels inputs/2 2/a b ink/0 2 1/" 5 28
    ∷ back "levels inputs/2 2/a b ink/00 0 1/" 5 26
    ∷ back "levels inputs/2 2/a b ink/0  ink/" 5 29
    -- a bad ink field is still 6
    ∷ back "levels inputs/2 2/a b ink/0 0   2/" 6 32
    -- 20: "placed at the row's first field"; with an ink that is malformed; with an empty one
    ∷ back "levels inputs/2 2/a b ink/1 0 0/0 1 0/1 0 1/" 20 38
    ∷ back "levels inputs/2 2/a b ink/1 0 0/1  0  2/" 20 32
    ∷ back "levels inputs/2 2/a b ink/1 0 0/1 0  /" 20 32
    ∷ back "levels inputs/2 2/a b ink/1 0 0/1 0 " 20 32
    -- .. which is not judged if no space follows the last input field
    ∷ back "levels inputs/2 2/a b ink/1 0 0/1 0/" 1 35
    -- "Too few rows is still 1"; a row beyond the last; a space beyond it
    ∷ back "levels inputs/2 2/a b ink/1 0 0/0 1 0/0 0 0/" 1 44
    ∷ back "levels inputs/2 2/a b ink/1 0 0/0 1 0/0 0 0/1 1 1/0 0 0/" 1 50
    ∷ back "levels inputs/2 2/a b ink/1 0 0/0 1 0/0 0 0/1 1 1/ " 1 50
    ∷ []

pub loose_cases_hold : AllHold LooseHolds loose_cases
unfolding computing writing
loose_cases_hold =
    (refl, (refl, (refl, (refl, (refl, (refl, (refl, (refl, (refl, (refl, (refl, (refl, (refl, (refl, (refl, (refl, (refl, second)))))))))))))))))
  where
    second : AllHold LooseHolds (drop 17 loose_cases)
    second = (refl, (refl, (refl, (refl, (refl, (refl, (refl, tt)))))))
