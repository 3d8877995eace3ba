-- Document 01, section 'Settling and making': the two calls, with what is 'Turned back because of the state'. Their answer, and what each buffer lent
-- to them holds afterwards, on accepted and on refused inputs. Everything after the reading is stated for any net that may be made of a table, so
-- a call that makes another net has the same order of refusals.
-- Assumes nothing.
use Rattle.std.specs.Prelude.{ℕ, ◌^◌, true, false, List, length, eqb, ltb}
use Rattle.rules.specs.Sheets.Sheets.{Net, Table}
use Rattle.rules.specs.Sheets.Printed.{printed_net}
use Rattle.rules.specs.Groups.Groups.{whole_group}
use Rattle.rules.specs.Groups.Marks.{mark_in, marks_of, marks_length, stored_marks, no_tree_place}
use Rattle.rules.specs.Nets.Settled.{settled_gates}
use Rattle.rules.specs.Calls.Answers.{Answer, accepted, ink_in, refused, written}
use Rattle.rules.specs.Sheets.Reading.{read_net, table_of_net}
use Rattle.rules.specs.Calls.OpenCells.{read_full}

-- what settling and making return, and what their three buffers hold afterwards
pub record Made : Type 0 where
  pub answer : Answer ℕ
  pub cells : List ℕ
  pub marks : List ℕ
  pub output : List ℕ

-- the settled net of a table, under the table's header
unfoldable pub settled_net : Table → Net
settled_net t =
    let m = t.header.levels in
    let n = t.header.inputs in
    let f = ink_in t.inks in
    record { header = t.header; gates = settled_gates m n f (marks_of m n f) }

-- "A call that writes a sheet answers its length, and the sheet is that many bytes from the front of the output."
-- 15: output short, with the cells and marks written
unfoldable pub written_sheet : List ℕ → List ℕ → List ℕ → List ℕ → Made
written_sheet sheet cells marks output =
    elim (ltb (length output) (length sheet)) [
      | true ↦ record { answer = refused 15 (length sheet); cells = cells; marks = marks; output = output }
      | false ↦ record { answer = accepted (length sheet); cells = cells; marks = marks; output = written output sheet }
    ]

-- "15 and 16 leave cells and marks written where the call has them, the output untouched." 16: no tree
unfoldable pub after_marks : (Table → Net) → Table → List ℕ → List ℕ → List ℕ → Made
after_marks net_for t cells marks output =
    let n = t.header.inputs in
    let all_marks_lem = marks_of t.header.levels n (ink_in t.inks) in
    let cells_then = written cells t.inks in
    let marks_then = written marks (stored_marks all_marks_lem) in
    elim (eqb (mark_in all_marks_lem (whole_group n)) 2) [
      | false ↦ record { answer = refused 16 (no_tree_place n all_marks_lem); cells = cells_then; marks = marks_then; output = output }
      | true ↦ written_sheet (printed_net (net_for t)) cells_then marks_then output
    ]

-- "Judged in this order after the input": 13: cells buffer short; 14: marks buffer short. "Needed: m to the n bytes, ..", and for the marks "2 to the
-- n, divided by 4, and 14 reports that number" (document 02, K7)
unfoldable pub room_for : Table → List ℕ → List ℕ → Answer (Unit {0})
room_for t cells marks =
    let need = t.header.levels ^ t.header.inputs in
    let marks_need = marks_length t.header.inputs in
    elim (ltb (length cells) need) [
      | true ↦ refused 13 need
      | false ↦ elim (ltb (length marks) marks_need) [ true ↦ refused 14 marks_need | false ↦ accepted tt ]
    ]

-- "Every other refusal changes no buffer.": 13 and 14 end a call. `rest` is the result of the call if there is room.
unfoldable pub in_room : Table → List ℕ → List ℕ → List ℕ → Made → Made
in_room t cells marks output rest =
    elim (room_for t cells marks) [
      | refused number need ↦ record { answer = refused number need; cells = cells; marks = marks; output = output }
      | accepted room ↦ rest
    ]

-- .. then 16, then 15, which needs "the settled sheet's length". `net_for` is the net made of a table.
abbrev pub made_into : (Table → Net) → Table → List ℕ → List ℕ → List ℕ → Made
made_into net_for t cells marks output = in_room t cells marks output (after_marks net_for t cells marks output)

-- "Settling reads a net sheet, writes its table into the cells buffer (one byte a cell), the marks into the marks buffer, and
-- the settled net sheet, with the same first three lines, into the output." "Every other refusal changes no buffer."
unfoldable pub settle_call : List ℕ → List ℕ → List ℕ → List ℕ → Made
settle_call sheet cells marks output =
    elim (read_net sheet) [
      | refused number place ↦ record { answer = refused number place; cells = cells; marks = marks; output = output }
      | accepted net ↦ made_into settled_net (table_of_net net) cells marks output
    ]

-- "*Making* does the same from a table sheet.", which "needs a full table" (document 02, K13)
unfoldable pub make_call : List ℕ → List ℕ → List ℕ → List ℕ → Made
make_call sheet cells marks output =
    elim (read_full sheet) [
      | refused number place ↦ record { answer = refused number place; cells = cells; marks = marks; output = output }
      | accepted t ↦ made_into settled_net t cells marks output
    ]

-- all of this file computes
unfoldable pub computing : Unit {0}
unfolding settled_net written_sheet after_marks room_for in_room settle_call make_call
computing = tt
