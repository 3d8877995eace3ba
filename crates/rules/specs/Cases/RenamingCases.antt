-- Document 02, K14, by small cases: "Designers invert a panel, dark for light, and expect the same masks." A table, the table that it becomes,
-- and the sheet made of each. Sheets are written as in `Cases`, with `/` for the line feed.
-- Assumes nothing.
use Rattle.std.specs.Prelude.{◌+◌, ◌-◌, ◌%◌, ◌≡◌, refl, ◌++◌, map, eqb}
use Prim.Native.String.{String}
use Rattle.rules.specs.Sheets.Sheets.{Table}
use Rattle.rules.specs.Sheets.Printed.{printed_table}
use Rattle.rules.specs.Calls.Programs.{make_program}
use Rattle.rules.specs.Cases.KeepingCases.{weighted}
use Rattle.rules.specs.Cases.Written.{paper, abc, one_if, writing}
use Rattle.rules.specs.Evaluation.{computing}

-- "dark for light": level v becomes m − 1 − v
unfoldable pub inverted : Table → Table
inverted t = record { header = t.header; inks = map (λ v. t.header.levels - 1 - v) t.inks }

-- what is made of the table and of its inverse: the same sheet except for the last table
abbrev Inverts : Table → String → String → String → Type 0
Inverts t front table inverse =
    (make_program (printed_table t) ≡ paper front ++ paper table) × (make_program (printed_table (inverted t)) ≡ paper front ++ paper inverse)

-- a + 2 · b + c, of 3 levels: every digit of the last gate is reached
pub weighted_inverts : Inverts weighted "levels inputs/3 3/a b c/left right table/b c 012201120/a 1 " "012120201/" "210102021/"
unfolding computing writing inverted weighted
weighted_inverts = (refl, refl)

-- a, plus 1 if b = c: gate 1 has two classes, so no assignment reaches the last digit of each row of the last gate; it is 0 in both
unfoldable pub equal_adds : Table
equal_adds = abc 3 (λ a b c. (a + one_if (eqb b c)) % 3)

pub free_digits_stay : Inverts equal_adds "levels inputs/3 3/a b c/left right table/b c 011101110/a 1 " "100210020/" "120010200/"
unfolding computing writing inverted equal_adds
free_digits_stay = (refl, refl)
