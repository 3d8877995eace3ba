-- Document 02, K2, by small cases: a table whose settled net has one layer more than needed, and the shallower of two sheets. Sheets are
-- written as in `Cases`, with `/` for the line feed.
-- Assumes nothing.
use Rattle.std.specs.Prelude.{ℕ, ◌+◌, ◌%◌, ◌≡◌, refl, List, [], ◌∷◌, take}
use Prim.Native.String.{String}
use Rattle.rules.specs.Sheets.Sheets.{Table}
use Rattle.rules.specs.Limits.{most_cells, most_inputs, most_settled}
use Rattle.rules.specs.Sheets.Printed.{printed_table}
use Rattle.rules.specs.Groups.Marks.{marks_length}
use Rattle.rules.specs.Calls.Answers.{Answer, accepted, onward}
use Rattle.rules.specs.Calls.Programs.{make_program, zeros}
use Rattle.rules.specs.Calls.ShallowSettling.{LayeredMade, make_shallow_call, settle_shallow_call}
use Rattle.rules.specs.Calls.Shallower.{Which, first_sheet, second_sheet, no_sheet, layers_in, which_of}
use Rattle.rules.specs.Cases.Written.{AllHold, paper, abcd, writing}
use Rattle.rules.specs.Evaluation.{computing}

-- ---- the tables

-- 1 where an odd number of a b c d are 1
unfoldable pub odd : Table
odd = abcd 2 (λ a b c d. (a + b + c + d) % 2)

-- ---- the shallow_cases

-- what a case may say
pub data ShallowCase : Type 0 where
  makes : Table → String → ℕ → ShallowCase
  settles : String → String → ℕ → ShallowCase
  has : String → ℕ → ShallowCase
  hands : String → String → Which → ShallowCase

-- the sheet that a call wrote, and its layers
pub record Wrote : Type 0 where
  pub sheet : List ℕ
  pub count : ℕ

-- .. or its refusal
unfoldable pub wrote_in : LayeredMade → Answer Wrote
wrote_in made = onward made.answer (λ a. accepted (record { sheet = take a.length made.output; count = a.layers }))

-- a call with buffers that are long enough
unfoldable pub on : (List ℕ → List ℕ → List ℕ → List ℕ → LayeredMade) → List ℕ → Answer Wrote
on call sheet = wrote_in (call sheet (zeros most_cells) (zeros (marks_length most_inputs)) (zeros most_settled))

-- The common statement: what each case says.
abbrev pub ShallowHolds : ShallowCase → Type 0
-- the net sheet made of a table's sheet, and its layers
ShallowHolds (makes t output count) = on make_shallow_call (printed_table t) ≡ accepted (record { sheet = paper output; count = count })
-- .. and of a net sheet
ShallowHolds (settles sheet output count) = on settle_shallow_call (paper sheet) ≡ accepted (record { sheet = paper output; count = count })
-- the layers of a net sheet as it is wired
ShallowHolds (has sheet count) = layers_in (paper sheet) ≡ accepted count
-- which of two sheets is returned
ShallowHolds (hands first second which) = which_of (paper first) (paper second) ≡ which

-- the settled net of `odd`, its shallow net, and a sheet that is refused
abbrev pub deep : String
deep = "levels inputs/2 4/a b c d/left right table/c d 0110/b 1 0110/a 2 0110/"

abbrev pub flat : String
flat = "levels inputs/2 4/a b c d/left right table/a b 0110/c d 0110/1 2 0110/"

abbrev pub unreadable : String
unreadable = "levels inputs/2 2/a b/left right table/a a 0001/"

pub settled_deep : make_program (printed_table odd) ≡ paper deep
unfolding computing writing odd
settled_deep = refl

abbrev pub shallow_cases : List ShallowCase
shallow_cases =
    has deep 3
    ∷ makes odd flat 2
    ∷ settles deep flat 2
    ∷ settles flat flat 2
    ∷ hands deep flat second_sheet
    ∷ hands flat deep first_sheet
    ∷ hands deep deep first_sheet
    -- whatever their m, n and names: the first if the layers are equal; the second if it has fewer layers
    ∷ hands "levels inputs/2 3/x y z/left right table/x y 0001/1 z 0001/" flat first_sheet
    ∷ hands deep "levels inputs/3 2/x y/left right table/x y 000000000/" second_sheet
    ∷ hands unreadable deep second_sheet
    ∷ hands deep unreadable first_sheet
    ∷ hands unreadable "" no_sheet
    ∷ []

pub shallow_cases_hold : AllHold ShallowHolds shallow_cases
unfolding computing writing odd wrote_in on
shallow_cases_hold = (refl, (refl, (refl, (refl, (refl, (refl, (refl, (refl, (refl, (refl, (refl, (refl, tt))))))))))))
