-- The results of settling and making, one law for each outcome, whatever net is made of a table.
-- Assumes nothing.
use Rattle.std.specs.Prelude.{◌<◌, ◌≤◌, ◌^◌, ◌≡◌}
use Rattle.laws.specs.Prelude.{ℕ, ◌∙◌, sym, List, lt_of_not-le, dec_le, length, eq-eqb, ne_eqb, lt-ltb, le-ltb, by_cases}
use Rattle.rules.specs.Calls.Answers.{accepted, refused, ink_in, written}
use Rattle.rules.specs.Calls.OpenCells.{read_full}
use Rattle.rules.specs.Calls.Settling.{Made, settled_net, written_sheet, after_marks, room_for, in_room, made_into, settle_call, make_call}
use Rattle.rules.specs.Groups.Groups.{whole_group}
use Rattle.rules.specs.Groups.Marks.{mark_in, marks_of, marks_length, stored_marks, no_tree_place}
use Rattle.rules.specs.Sheets.Printed.{printed_net}
use Rattle.rules.specs.Sheets.Reading.{read_net, table_of_net}
use Rattle.rules.specs.Sheets.Sheets.{Net, Table}
use Rattle.laws.specs.Calls.Answers.{not_refused}

-- the marks of a table
abbrev pub marks_of_table : Table → List ℕ
marks_of_table t = marks_of t.header.levels t.header.inputs (ink_in t.inks)

-- the whole group of a table has mark 2
abbrev pub WholeTwo : Table → Type 0
WholeTwo t = mark_in (marks_of_table t) (whole_group t.header.inputs) ≡ 2

-- room for the cells and the marks
module _ (t : Table) (cells marks : List ℕ) where
  pub room_13 : length cells < t.header.levels ^ t.header.inputs → room_for t cells marks ≡ refused 13 (t.header.levels ^ t.header.inputs)
  unfolding room_for
  room_13 h = rw (lt-ltb _ _ h, room_for)

  pub room_14 : t.header.levels ^ t.header.inputs ≤ length cells → length marks < marks_length t.header.inputs
      → room_for t cells marks ≡ refused 14 (marks_length t.header.inputs)
  unfolding room_for
  room_14 h k = rw (le-ltb _ _ h, lt-ltb _ _ k, room_for)

  pub room_both : t.header.levels ^ t.header.inputs ≤ length cells → marks_length t.header.inputs ≤ length marks
      → room_for t cells marks ≡ accepted tt
  unfolding room_for
  room_both h k = rw (le-ltb _ _ h, le-ltb _ _ k, room_for)

  -- if there is room, both buffers are long enough
  pub room_fits : room_for t cells marks ≡ accepted tt → (t.header.levels ^ t.header.inputs ≤ length cells)
      × (marks_length t.header.inputs ≤ length marks)
  room_fits e = by_cases (dec_le (t.header.levels ^ t.header.inputs) (length cells))
      (λ h. by_cases (dec_le (marks_length t.header.inputs) (length marks))
      (λ k. (h, k))
      (λ k. absurd (not_refused tt 14 _ (sym e ∙ room_14 h (lt_of_not-le k)))))
      (λ h. absurd (not_refused tt 13 _ (sym e ∙ room_13 (lt_of_not-le h))))

-- a call that first asks for this room, whatever follows
module _ (t : Table) (cells marks output : List ℕ) (rest : Made) where
  -- refused for lack of room
  pub into_refused : (number place : ℕ) → room_for t cells marks ≡ refused number place
      → in_room t cells marks output rest ≡ record { answer = refused number place; cells = cells; marks = marks; output = output }
  unfolding in_room
  into_refused number place e = rw (e, in_room)

  pub into_room : room_for t cells marks ≡ accepted tt → in_room t cells marks output rest ≡ rest
  unfolding in_room
  into_room e = rw (e, in_room)

  pub into_13 : length cells < t.header.levels ^ t.header.inputs
      → in_room t cells marks output rest
      ≡ record { answer = refused 13 (t.header.levels ^ t.header.inputs); cells = cells; marks = marks; output = output }
  into_13 h = into_refused 13 _ (room_13 t cells marks h)

  pub into_14 : t.header.levels ^ t.header.inputs ≤ length cells → length marks < marks_length t.header.inputs
      → in_room t cells marks output rest
      ≡ record { answer = refused 14 (marks_length t.header.inputs); cells = cells; marks = marks; output = output }
  into_14 h k = into_refused 14 _ (room_14 t cells marks h k)

  pub into_marked : t.header.levels ^ t.header.inputs ≤ length cells → marks_length t.header.inputs ≤ length marks
      → in_room t cells marks output rest ≡ rest
  into_marked h k = into_room (room_both t cells marks h k)

module _ (net_for : Table → Net) (t : Table) (cells marks output : List ℕ) where
  pub marked_16 : (WholeTwo t → ⊥)
      → after_marks net_for t cells marks output
      ≡ record {
        answer = refused 16 (no_tree_place t.header.inputs (marks_of_table t));
        cells = written cells t.inks;
        marks = written marks (stored_marks (marks_of_table t));
        output = output;
      }
  unfolding after_marks
  marked_16 h = rw (ne_eqb _ _ h, after_marks)

  pub marked_tree : WholeTwo t
      → after_marks net_for t cells marks output
      ≡ written_sheet (printed_net (net_for t)) (written cells t.inks) (written marks (stored_marks (marks_of_table t))) output
  unfolding after_marks
  marked_tree h = rw (eq-eqb _ _ h, after_marks)

module _ (sheet cells marks output : List ℕ) where
  pub sheet_15 : length output < length sheet
      → written_sheet sheet cells marks output ≡ record { answer = refused 15 (length sheet); cells = cells; marks = marks; output = output }
  unfolding written_sheet
  sheet_15 h = rw (lt-ltb _ _ h, written_sheet)

  pub sheet_written : length sheet ≤ length output
      → written_sheet sheet cells marks output
      ≡ record { answer = accepted (length sheet); cells = cells; marks = marks; output = written output sheet }
  unfolding written_sheet
  sheet_written h = rw (le-ltb _ _ h, written_sheet)

-- a sheet that is refused, and one that is accepted
module _ (s cells marks output : List ℕ) where
  pub settle_refused : (number place : ℕ) → read_net s ≡ refused number place
      → settle_call s cells marks output ≡ record { answer = refused number place; cells = cells; marks = marks; output = output }
  unfolding settle_call
  settle_refused number place e = rw (e, settle_call)

  pub settle_accepted : (net : Net) → read_net s ≡ accepted net → settle_call s cells marks output ≡ made_into settled_net (table_of_net net) cells marks output
  unfolding settle_call
  settle_accepted net e = rw (e, settle_call)

  pub make_refused : (number place : ℕ) → read_full s ≡ refused number place
      → make_call s cells marks output ≡ record { answer = refused number place; cells = cells; marks = marks; output = output }
  unfolding make_call
  make_refused number place e = rw (e, make_call)

  pub make_accepted : (t : Table) → read_full s ≡ accepted t → make_call s cells marks output ≡ made_into settled_net t cells marks output
  unfolding make_call
  make_accepted t e = rw (e, make_call)
