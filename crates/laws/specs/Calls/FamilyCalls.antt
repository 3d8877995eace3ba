-- The results of the two calls over a table's family of trees, one law for each outcome.
-- Assumes nothing.
use Rattle.std.specs.Prelude.{◌<◌, ◌≤◌, ◌^◌, ◌≡◌}
use Rattle.laws.specs.Prelude.{ℕ, List, length, lt-ltb, le-ltb}
use Rattle.rules.specs.Calls.Answers.{accepted, refused, written}
use Rattle.rules.specs.Calls.FamilyCalls.{count_of_table, family_net, counted_into, family_count_call, after_count, numbered_into, family_tree_call}
use Rattle.rules.specs.Calls.OpenCells.{read_full}
use Rattle.rules.specs.Calls.Settling.{room_for, written_sheet}
use Rattle.rules.specs.Groups.Marks.{marks_length, stored_marks}
use Rattle.rules.specs.Sheets.Printed.{printed_net}
use Rattle.rules.specs.Sheets.Sheets.{Table}
use Rattle.laws.specs.Calls.Settling.{marks_of_table, room_13, room_14, room_both}

-- ---- the count

module _ (t : Table) (cells marks : List ℕ) where
  -- refused for lack of room
  pub counted_refused : (number place : ℕ) → room_for t cells marks ≡ refused number place
      → counted_into t cells marks ≡ record { answer = refused number place; cells = cells; marks = marks }
  unfolding counted_into
  counted_refused number place e = rw (e, counted_into)

  pub counted_room : room_for t cells marks ≡ accepted tt
      → counted_into t cells marks
      ≡ record { answer = accepted (count_of_table t); cells = written cells t.inks; marks = written marks (stored_marks (marks_of_table t)) }
  unfolding counted_into
  counted_room e = rw (e, counted_into)

  pub counted_13 : length cells < t.header.levels ^ t.header.inputs
      → counted_into t cells marks ≡ record { answer = refused 13 (t.header.levels ^ t.header.inputs); cells = cells; marks = marks }
  counted_13 h = counted_refused 13 _ (room_13 t cells marks h)

  pub counted_14 : t.header.levels ^ t.header.inputs ≤ length cells → length marks < marks_length t.header.inputs
      → counted_into t cells marks ≡ record { answer = refused 14 (marks_length t.header.inputs); cells = cells; marks = marks }
  counted_14 h k = counted_refused 14 _ (room_14 t cells marks h k)

  pub counted_marked : t.header.levels ^ t.header.inputs ≤ length cells → marks_length t.header.inputs ≤ length marks
      → counted_into t cells marks
      ≡ record { answer = accepted (count_of_table t); cells = written cells t.inks; marks = written marks (stored_marks (marks_of_table t)) }
  counted_marked h k = counted_room (room_both t cells marks h k)

-- ---- the tree of a number, if there is room

module _ (number : ℕ) (t : Table) (cells marks output : List ℕ) where
  pub count_17 : count_of_table t ≤ number
      → after_count number t cells marks output
      ≡ record {
        answer = refused 17 number;
        cells = written cells t.inks;
        marks = written marks (stored_marks (marks_of_table t));
        output = output;
      }
  unfolding after_count
  count_17 h = rw (le-ltb _ _ h, after_count)

  pub count_tree : number < count_of_table t
      → after_count number t cells marks output
      ≡ written_sheet (printed_net (family_net number t)) (written cells t.inks) (written marks (stored_marks (marks_of_table t))) output
  unfolding after_count
  count_tree h = rw (lt-ltb _ _ h, after_count)

-- ---- a sheet that is refused, and one that is accepted

module _ (s cells marks : List ℕ) where
  pub family_count_refused : (number place : ℕ) → read_full s ≡ refused number place
      → family_count_call s cells marks ≡ record { answer = refused number place; cells = cells; marks = marks }
  unfolding family_count_call
  family_count_refused number place e = rw (e, family_count_call)

  pub family_count_accepted : (t : Table) → read_full s ≡ accepted t → family_count_call s cells marks ≡ counted_into t cells marks
  unfolding family_count_call
  family_count_accepted t e = rw (e, family_count_call)

module _ (s : List ℕ) (number : ℕ) (cells marks output : List ℕ) where
  pub family_tree_refused : (refusal place : ℕ) → read_full s ≡ refused refusal place
      → family_tree_call s number cells marks output ≡ record { answer = refused refusal place; cells = cells; marks = marks; output = output }
  unfolding family_tree_call
  family_tree_refused refusal place e = rw (e, family_tree_call)

  pub family_tree_accepted : (t : Table) → read_full s ≡ accepted t → family_tree_call s number cells marks output ≡ numbered_into number t cells marks output
  unfolding family_tree_call
  family_tree_accepted t e = rw (e, family_tree_call)
