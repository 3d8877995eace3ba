-- Document 01, section 'Proofs on squared paper': the starred cases 1 to 8 as one theorem, `starred_hold`, and the other two,
-- `unstarred_hold`. Sheets are written as in the document, with `/` for the line feed.
-- Assumes nothing.
use Rattle.std.specs.Prelude.{ℕ, ◌+◌, ◌*◌, max, ◌≡◌, refl, cond, not, ◌&&◌, ◌||◌, List, [], ◌∷◌, map, drop, length, get_or, eqb, leb}
use Prim.Native.String.{String}
use Rattle.rules.specs.Lists.{range, those}
use Rattle.rules.specs.Text.{text}
use Rattle.rules.specs.Limits.{size_fits}
use Rattle.rules.specs.Sheets.Sheets.{Net, Table}
use Rattle.rules.specs.Sheets.Printed.{printed_table}
use Rattle.rules.specs.Groups.Marks.{mark_in, marks_of, stored_marks, mark_stored}
use Rattle.rules.specs.Calls.Answers.{Answer, accepted, refused, onward, ink_in}
use Rattle.rules.specs.Sheets.Reading.{read_net, table_of_net}
use Rattle.rules.specs.Calls.Multiplicity.{multiplicity_call}
use Rattle.rules.specs.Calls.Programs.{settle_program, make_program}
use Rattle.rules.specs.Cases.Written.{AllHold, paper, digits, by_rule, abc, abcd, one_if, writing}
use Rattle.rules.specs.Evaluation.{computing}

-- ---- the tables

-- "All ink 0"
unfoldable pub zero_table : Table
zero_table = abc 2 (λ a b c. 0)

-- "ink 1 when at least two of a b c are 1"
unfoldable pub majority : Table
majority = abc 2 (λ a b c. one_if (leb 2 (a + b + c)))

-- "3 levels, ink 1 when at least two of a b c aren't 0"
unfoldable pub two_not_zero : Table
two_not_zero = abc 3 (λ a b c. one_if (leb 2 (one_if (not (eqb a 0)) + one_if (not (eqb b 0)) + one_if (not (eqb c 0)))))

-- "e is 0 if d = 0, else a. Ink is 1 if c = 0 and max(e, b) is at least 1, or c = 1 and max(e, b) = 2; else 0."
unfoldable pub seven : Table
seven =
    abcd 3
    (λ a b c d.
    let e = cond (eqb d 0) 0 a in
    one_if ((eqb c 0 && leb 1 (max e b)) || (eqb c 1 && eqb (max e b) 2)))

-- Figure 1 of document 003, the z3 z4 | z1 z2 partition matrix: a row for each z3 z4, a column for each z1 z2, both counted
-- from 00 to 22.
unfoldable pub figure_rows : List (List ℕ)
figure_rows =
    digits (text "1 0 1 0 0 1 0 1 0")
    ∷ digits (text "1 1 2 1 1 2 1 1 1")
    ∷ digits (text "0 2 0 2 2 0 2 0 2")
    ∷ digits (text "0 2 0 2 2 0 2 0 2")
    ∷ digits (text "0 2 0 2 2 0 2 0 2")
    ∷ digits (text "0 2 0 2 2 0 2 0 2")
    ∷ digits (text "1 1 2 1 1 2 1 1 1")
    ∷ digits (text "1 0 1 0 0 1 0 1 0")
    ∷ digits (text "1 0 1 0 0 1 0 1 0")
    ∷ []

-- Figure 1's table
unfoldable pub figure : Table
figure =
    by_rule 3 4 (text "z1" ∷ text "z2" ∷ text "z3" ∷ text "z4" ∷ [])
    (λ ls. get_or (get_or figure_rows (get_or ls 2 0 * 3 + get_or ls 3 0) []) (get_or ls 0 0 * 3 + get_or ls 1 0) 0)

-- ---- the cases

-- what a case may say
pub data Case : Type 0 where
  settles : String → String → Case
  makes : Table → String → Case
  computes : String → Table → Case
  marks : Table → List ℕ → List ℕ → Case
  mark : Table → ℕ → ℕ → Case
  multiplicity : Table → ℕ → ℕ → Case
  refuses : String → ℕ → ℕ → Case
  accepts : String → ℕ → Case

-- a table's marks
unfoldable pub marks_of_case : Table → List ℕ
marks_of_case t = marks_of t.header.levels t.header.inputs (ink_in t.inks)

-- how many gates an accepted net has
unfoldable pub gate_count : Answer Net → Answer ℕ
gate_count answer = onward answer (λ net. accepted (length net.gates))

-- The common statement: what each case says.
abbrev pub Holds : Case → Type 0
-- the settling program's whole output for a net sheet
Holds (settles sheet output) = settle_program (paper sheet) ≡ paper output
-- the making program's whole output for a table's sheet
Holds (makes t output) = make_program (printed_table t) ≡ paper output
-- an accepted net sheet has this table
Holds (computes sheet t) = onward (read_net (paper sheet)) (λ net. accepted (table_of_net net)) ≡ accepted t
-- all marks, and the bytes that store them (document 02, K7); one group's mark, also as read from those bytes; one group's multiplicity
Holds (marks t due bytes) = (marks_of_case t ≡ due) × (stored_marks (marks_of_case t) ≡ bytes)
Holds (mark t g due) = (mark_in (marks_of_case t) g ≡ due) × (mark_stored (stored_marks (marks_of_case t)) g ≡ due)
Holds (multiplicity t g due) = multiplicity_call t.header.levels t.header.inputs t.inks g ≡ accepted due
-- a net sheet is refused, or accepted with this number of gates
Holds (refuses sheet number place) = gate_count (read_net (paper sheet)) ≡ refused number place
Holds (accepts sheet gates) = gate_count (read_net (paper sheet)) ≡ accepted gates

-- Cases 1 to 8, in the document's order. "Case 4 becomes `a b 0000`." (document 02, K12)
abbrev pub starred : List Case
starred =
    settles "levels inputs/2 2/a b/left right table/a b 0001/" "levels inputs/2 2/a b/left right table/a b 0001/"
    ∷ settles "levels inputs/2 3/a b c/left right table/a b 0110/1 c 0110/" "levels inputs/2 3/a b c/left right table/b c 0110/a 1 0110/"
    ∷ settles "levels inputs/2 3/a b c/left right table/b c 1001/a 1 1001/" "levels inputs/2 3/a b c/left right table/b c 0110/a 1 0110/"
    ∷ makes zero_table "levels inputs/2 3/a b c/left right table/a b 0000/"
    ∷ marks majority (0 ∷ 2 ∷ 2 ∷ 0 ∷ 2 ∷ 0 ∷ 0 ∷ 1 ∷ []) (0x28 ∷ 0x42 ∷ [])
    ∷ makes majority "number place/16 7/"
    ∷ makes two_not_zero "levels inputs/3 3/a b c/left right table/b c 011122122/a 1 001011011/"
    ∷ multiplicity seven 7 3
    ∷ mark seven 7 1
    ∷ mark seven 3 0
    ∷ mark seven 5 0
    ∷ mark seven 6 0
    ∷ makes seven "levels inputs/3 4/a b c d/left right table/a d 000011022/1 b 012112222/2 c 000100110/"
    ∷ makes figure "levels inputs/3 4/z1 z2 z3 z4/left right table/z1 z2 012112101/z3 z4 012222100/1 2 110012120/"
    ∷ computes "levels inputs/3 4/z1 z2 z3 z4/left right table/z1 z2 012112101/z3 z4 012222100/1 2 110012120/" figure
    ∷ []

pub starred_hold : AllHold Holds starred
unfolding computing writing zero_table majority two_not_zero seven figure_rows figure marks_of_case
starred_hold =
    (refl, (refl, (refl, (refl, ((refl, refl), (refl, (refl, (refl, ((refl, refl), ((refl, refl), ((refl, refl), ((refl, refl), second))))))))))))
  where
    second : AllHold Holds (drop 12 starred)
    second = (refl, (refl, (refl, tt)))

-- Cases 9 and 10, which the document leaves to tests. "2 with 12, 4 with 6, 5 with 5, 7 with 4 and 8 with 4 come in. Refusals 3 and 9 and case 10
-- move with it; 2 with 13 is the new refused side." (document 02, K6)
abbrev pub unstarred : List Case
unstarred =
    refuses "levels inputs/2 2/a b/left right table/a a 0001/" 8 41
    ∷ refuses "levels inputs/2 2/a b/left right table/1 a 0001/" 7 39
    ∷ refuses "levels inputs/1 2/a b/left right table/a b 0001/" 2 14
    ∷ refuses "levels inputs/2 1/a b/left right table/a b 0001/" 3 16
    ∷ accepts
    "levels inputs/2 11/a b c d e f g h i j k/left right table/a b 0001/1 c 0001/2 d 0001/3 e 0001/4 f 0001/5 g 0001/6 h 0001/7 i 0001/8 j 0001/9 k 0001/"
    10
    ∷ accepts
    "levels inputs/2 12/a b c d e f g h i j k l/left right table/a b 0001/1 c 0001/2 d 0001/3 e 0001/4 f 0001/5 g 0001/6 h 0001/7 i 0001/8 j 0001/9 k 0001/10 l 0001/"
    11
    ∷ accepts "levels inputs/3 7/a b c d e f g/left right table/a b 012112222/1 c 012112222/2 d 012112222/3 e 012112222/4 f 012112222/5 g 012112222/" 6
    ∷ accepts
    "levels inputs/4 6/a b c d e f/left right table/a b 0000000000000001/1 c 0000000000000001/2 d 0000000000000001/3 e 0000000000000001/4 f 0000000000000001/"
    5
    ∷ accepts
    "levels inputs/5 5/a b c d e/left right table/a b 0000000000000000000000001/1 c 0000000000000000000000001/2 d 0000000000000000000000001/3 e 0000000000000000000000001/"
    4
    ∷ accepts
    "levels inputs/7 4/a b c d/left right table/a b 0000000000000000000000000000000000000000000000001/1 c 0000000000000000000000000000000000000000000000001/2 d 0000000000000000000000000000000000000000000000001/"
    3
    ∷ accepts
    "levels inputs/8 4/a b c d/left right table/a b 0000000000000000000000000000000000000000000000000000000000000001/1 c 0000000000000000000000000000000000000000000000000000000000000001/2 d 0000000000000000000000000000000000000000000000000000000000000001/"
    3
    ∷ accepts
    "levels inputs/9 3/a b c/left right table/a b 000000000000000000000000000000000000000000000000000000000000000000000000000000000/1 c 000000000000000000000000000000000000000000000000000000000000000000000000000000000/"
    2
    ∷ refuses "levels inputs/2 13/" 3 16
    ∷ refuses "levels inputs/3 8/" 3 16
    ∷ refuses "levels inputs/9 4/" 3 16
    ∷ refuses "" 1 0
    ∷ []

pub unstarred_hold : AllHold Holds unstarred
unfolding computing writing gate_count
unstarred_hold = (refl, (refl, (refl, (refl, (refl, (refl, (refl, (refl, (refl, (refl, (refl, (refl, (refl, (refl, (refl, (refl, tt))))))))))))))))

-- For each number of levels below 13, the numbers of inputs up to 20 that a sheet may have.
pub sizes_are : map (λ m. those (size_fits m) (range 0 21)) (range 0 13)
    ≡ [] ∷ [] ∷ range 2 11 ∷ range 2 6 ∷ range 2 5 ∷ range 2 4 ∷ range 2 3 ∷ range 2 3 ∷ range 2 3 ∷ range 2 2 ∷ [] ∷ [] ∷ [] ∷ []
unfolding computing
sizes_are = refl
