-- What the answers and buffers of the two calls represent, and their outcomes in the order of the code.
-- Assumes nothing.
use Rattle.std.specs.Prelude.{◌<◌, ◌≤◌, ◌≡◌, Result}
use Rattle.laws.specs.Prelude.{ℕ, ◌∙◌, sym, subst, List}
use Rattle.rules.specs.Sheets.Printed.{printed_net}
use Rattle.rules.specs.Groups.Marks.{marks_of}
use Rattle.rules.specs.Calls.Answers.{accepted, refused, ink_in}
use Rattle.rules.specs.Calls.Settling.{room_for, written_sheet}
use Rattle.rules.specs.Nets.Family.{family_gates}
use Rattle.rules.specs.Calls.FamilyCalls.{Counted, count_of_table, family_net, counted_into, after_count, family_count_call, family_tree_call}
use Rattle.laws.specs.Calls.Settling.{into_refused, into_room}
use Rattle.laws.specs.Calls.FamilyCalls.{counted_refused, counted_room, count_17, count_tree, family_count_refused, family_count_accepted}
use Rattle.laws.specs.Calls.FamilyCalls.{family_tree_refused, family_tree_accepted}
use Rattle.nets.specs.declared.forms.Header.{Header}
use Rattle.nets.specs.declared.forms.Net as own
use Rattle.nets.specs.Forms.{header_of, net_in, table_in}
use Rattle.answers.specs.declared.refusal.Refusal.{Refusal}
use Rattle.answers.specs.AnswerMaps.{answer_of, made_of}
use Rattle.accepted.specs.Taken.{Given}
use Rattle.gate_tables.specs.MadeNet.{NetOf}
use Rattle.settling.specs.Outcomes.{net_is}
use Rattle.settling.specs.Input.{SettlingTurnedBack, by_sheet, by_room, InputTaken}
use Rattle.families.specs.Marked.{MarkedCount}

-- the answer, and the two buffers after the call
abbrev pub counted_of : Result ℕ Refusal → List ℕ → List ℕ → Counted
counted_of r cells marks = record { answer = answer_of r; cells = cells; marks = marks }

-- ---- once the cells and the marks are written

module _ (s : List ℕ) (h : Header) (inks cells marks : List ℕ) (r : ℕ) (cells_then all_marks_lem marks_then counts : List ℕ)
    (did : MarkedCount h.levels h.inputs inks cells marks r cells_then all_marks_lem marks_then counts) where
  counted_is : r ≡ count_of_table (table_in s h inks)
  unfolding count_of_table header_of
  counted_is = did.count

  -- the count
  pub count_given : room_for (table_in s h inks) cells marks ≡ accepted tt
      → record { answer = accepted r; cells = cells_then; marks = marks_then } ≡ counted_into (table_in s h inks) cells marks
  unfolding header_of
  count_given room =
      (λ i. record { answer = accepted (counted_is i); cells = did.copied i; marks = did.marked i }) ∙ sym (counted_room (table_in s h inks) cells marks room)

  module _ (order : ℕ) (output : List ℕ) where
    -- refusal 17
    pub order_past : r ≤ order
        → record { answer = refused 17 order; cells = cells_then; marks = marks_then; output = output } ≡ after_count order (table_in s h inks) cells marks output
    unfolding header_of
    order_past past =
        (λ i. record { answer = refused 17 order; cells = did.copied i; marks = did.marked i; output = output })
        ∙ sym (count_17 order (table_in s h inks) cells marks output (subst (λ (k : ℕ). k ≤ order) counted_is past))

    -- refusal 15, or the sheet
    module _ (given : Given s h inks) (below : order < r) (net : own.Net)
        (is : NetOf h.levels h.inputs (family_gates h.levels h.inputs (ink_in inks) (marks_of h.levels h.inputs (ink_in inks)) order) net) where
      tree_is : net_in s h net ≡ family_net order (table_in s h inks)
      unfolding family_net header_of
      tree_is = net_is s h inks given net is

      pub order_tree : (answer : Result ℕ Refusal) (after : List ℕ)
          → ((own_cells own_marks : List ℕ) → made_of answer own_cells own_marks after ≡ written_sheet (printed_net (net_in s h net)) own_cells own_marks output)
          → made_of answer cells_then marks_then after ≡ after_count order (table_in s h inks) cells marks output
      unfolding header_of
      order_tree answer after wrote =
          wrote cells_then marks_then
          ∙ (λ i. written_sheet (printed_net (tree_is i)) (did.copied i) (did.marked i) output)
          ∙ sym (count_tree order (table_in s h inks) cells marks output (subst (λ (k : ℕ). order < k) counted_is below))

-- a table sheet that is refused, or has room for its table

module _ (s cells marks : List ℕ) where
  pub count_turned : {number place : ℕ} → SettlingTurnedBack s cells marks number place
      → record { answer = refused number place; cells = cells; marks = marks } ≡ family_count_call s cells marks
  count_turned (by_sheet e) = sym (family_count_refused s cells marks _ _ e)
  count_turned (by_room t reads short) = sym (counted_refused t cells marks _ _ short) ∙ sym (family_count_accepted s cells marks t reads)

  pub input_counted : (h : Header) (inks : List ℕ) → InputTaken s h inks cells marks
      → counted_into (table_in s h inks) cells marks ≡ family_count_call s cells marks
  input_counted h inks taken = sym (family_count_accepted s cells marks _ taken.reads)

  module _ (order : ℕ) (output : List ℕ) where
    pub tree_turned : {number place : ℕ} → SettlingTurnedBack s cells marks number place
        → record { answer = refused number place; cells = cells; marks = marks; output = output } ≡ family_tree_call s order cells marks output
    tree_turned (by_sheet e) = sym (family_tree_refused s order cells marks output _ _ e)
    tree_turned (by_room t reads short) =
        sym (into_refused t cells marks output _ _ _ short) ∙ sym (family_tree_accepted s order cells marks output t reads)

    pub input_numbered : (h : Header) (inks : List ℕ) → InputTaken s h inks cells marks
        → after_count order (table_in s h inks) cells marks output ≡ family_tree_call s order cells marks output
    input_numbered h inks taken =
        sym (into_room (table_in s h inks) cells marks output _ taken.room) ∙ sym (family_tree_accepted s order cells marks output _ taken.reads)
