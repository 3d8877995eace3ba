-- Document 02, K3: the two calls over the whole family of a table's trees. "One call takes a table sheet with making's cells and marks buffers, no
-- output, and answers the count of the trees. The other takes a table sheet, an order number and all of making's buffers, and writes the tree of
-- that number, from 0." Everything judged before that is as in making.
-- Assumes nothing.
use Rattle.std.specs.Prelude.{ℕ, true, false, List, ltb}
use Rattle.rules.specs.Sheets.Sheets.{Net, Table}
use Rattle.rules.specs.Sheets.Printed.{printed_net}
use Rattle.rules.specs.Groups.Marks.{marks_of, stored_marks}
use Rattle.rules.specs.Nets.Leaves.{leaves_of}
use Rattle.rules.specs.Nets.Family.{tree_count, family_gates}
use Rattle.rules.specs.Calls.Answers.{Answer, accepted, ink_in, refused, written}
use Rattle.rules.specs.Calls.OpenCells.{read_full}
use Rattle.rules.specs.Calls.Settling.{Made, room_for, in_room, written_sheet}

-- ---- for a table

-- how many trees a table has
unfoldable pub count_of_table : Table → ℕ
count_of_table t =
    let m = t.header.levels in
    let n = t.header.inputs in
    let f = ink_in t.inks in
    tree_count n (marks_of m n f) (leaves_of m n f)

-- the net of a number, under the table's header
unfoldable pub family_net : ℕ → Table → Net
family_net number t =
    let m = t.header.levels in
    let n = t.header.inputs in
    let f = ink_in t.inks in
    record { header = t.header; gates = family_gates m n f (marks_of m n f) number }

-- ---- the count

-- what the count call returns, and what its two buffers hold afterwards
pub record Counted : Type 0 where
  pub answer : Answer ℕ
  pub cells : List ℕ
  pub marks : List ℕ

-- 13 and 14 are as in making. "A table with no tree gets count 0, never 16."
unfoldable pub counted_into : Table → List ℕ → List ℕ → Counted
counted_into t cells marks =
    let all_marks_lem = marks_of t.header.levels t.header.inputs (ink_in t.inks) in
    elim (room_for t cells marks) [
      | refused number need ↦ record { answer = refused number need; cells = cells; marks = marks }
      | accepted room ↦ record { answer = accepted (count_of_table t); cells = written cells t.inks; marks = written marks (stored_marks all_marks_lem) }
    ]

-- "One call takes a table sheet with making's cells and marks buffers, no output, and answers the count of the trees."
unfoldable pub family_count_call : List ℕ → List ℕ → List ℕ → Counted
family_count_call sheet cells marks =
    elim (read_full sheet) [
      | refused number place ↦ record { answer = refused number place; cells = cells; marks = marks }
      | accepted t ↦ counted_into t cells marks
    ]

-- ---- the tree of a number

-- "17, order number not below the count, place the number, judged after 14 and before 15; it takes the place of 16 in the second call and leaves
-- what 16 leaves."
unfoldable pub after_count : ℕ → Table → List ℕ → List ℕ → List ℕ → Made
after_count number t cells marks output =
    let all_marks_lem = marks_of t.header.levels t.header.inputs (ink_in t.inks) in
    let cells_then = written cells t.inks in
    let marks_then = written marks (stored_marks all_marks_lem) in
    elim (ltb number (count_of_table t)) [
      | false ↦ record { answer = refused 17 number; cells = cells_then; marks = marks_then; output = output }
      | true ↦ written_sheet (printed_net (family_net number t)) cells_then marks_then output
    ]

-- 13, 14, 17, 15
abbrev pub numbered_into : ℕ → Table → List ℕ → List ℕ → List ℕ → Made
numbered_into number t cells marks output = in_room t cells marks output (after_count number t cells marks output)

-- "The other takes a table sheet, an order number and all of making's buffers, and writes the tree of that number, from 0."
unfoldable pub family_tree_call : List ℕ → ℕ → List ℕ → List ℕ → List ℕ → Made
family_tree_call sheet number cells marks output =
    elim (read_full sheet) [
      | refused refusal place ↦ record { answer = refused refusal place; cells = cells; marks = marks; output = output }
      | accepted t ↦ numbered_into number t cells marks output
    ]

-- all of this file computes
unfoldable pub computing : Unit {0}
unfolding count_of_table family_net counted_into family_count_call after_count family_tree_call
computing = tt
