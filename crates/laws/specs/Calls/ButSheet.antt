-- Two nets made of one table, whose sheets have the same length: the calls that make them have the same result except for the sheet in the output.
-- Assumes nothing.
use Rattle.std.specs.Prelude.{◌≡◌}
use Rattle.laws.specs.Prelude.{ℕ, ap, refl, List, dec_lt, ℕ_discrete, arith, length}
use Rattle.rules.specs.Calls.Answers.{Answer, accepted, refused, written}
use Rattle.rules.specs.Calls.Settling.{Made, written_sheet, room_for, made_into}
use Rattle.rules.specs.Groups.Marks.{stored_marks}
use Rattle.rules.specs.Sheets.Printed.{printed_net}
use Rattle.rules.specs.Sheets.Sheets.{Net, Table}
use Rattle.laws.specs.Calls.Answers.{not_refused}
use Rattle.laws.specs.Calls.Settling.{WholeTwo, marks_of_table, into_refused, into_room, marked_16, marked_tree, sheet_15, sheet_written}

-- the same answer, cells and marks; and the same output if they refuse
pub record ButSheet (first second : Made) : Type 0 where
  pub answer : first.answer ≡ second.answer
  pub cells : first.cells ≡ second.cells
  pub marks : first.marks ≡ second.marks
  pub output : (number place : ℕ) → second.answer ≡ refused number place → first.output ≡ second.output

-- two equal results
pub but_none : (made : Made) → ButSheet made made
but_none made = record { answer = refl; cells = refl; marks = refl; output = λ _ _ _. refl }

-- two sheets of the same length
pub sheets_but : (sheet other cells marks output : List ℕ) → length sheet ≡ length other
    → ButSheet (written_sheet sheet cells marks output) (written_sheet other cells marks output)
sheets_but sheet other cells marks output long = elim (dec_lt (length output) (length sheet)) [
  | yes short ↦ rw (sheet_15 sheet cells marks output short, sheet_15 other cells marks output (omega arith), long) (but_none _)
  | no room ↦
      rw (sheet_written sheet cells marks output (omega arith), sheet_written other cells marks output (omega arith))
      (record { answer = ap accepted long; cells = refl; marks = refl; output = λ number place e. absurd (not_refused _ number place e) })
]

module _ (net_for other : Table → Net) (t : Table) (cells marks output : List ℕ) where
  -- if there is a tree, the two sheets have the same length
  pub into_but : (WholeTwo t → length (printed_net (net_for t)) ≡ length (printed_net (other t)))
      → ButSheet (made_into net_for t cells marks output) (made_into other t cells marks output)
  into_but long = go (room_for t cells marks) refl (ℕ_discrete _ 2)
    where
      go : (a : Answer (Unit {0})) → room_for t cells marks ≡ a → Dec (WholeTwo t)
          → ButSheet (made_into net_for t cells marks output) (made_into other t cells marks output)
      go (refused number place) e _ = rw (into_refused t cells marks output _ number place e, into_refused t cells marks output _ number place e) (but_none _)
      go (accepted tt) e (no none) =
          rw (
            into_room t cells marks output _ e,
            into_room t cells marks output _ e,
            marked_16 net_for t cells marks output none,
            marked_16 other t cells marks output none,
          )
          (but_none _)
      go (accepted tt) e (yes two) =
          rw (
            into_room t cells marks output _ e,
            into_room t cells marks output _ e,
            marked_tree net_for t cells marks output two,
            marked_tree other t cells marks output two,
          )
          (sheets_but (printed_net (net_for t)) (printed_net (other t)) (written cells t.inks) (written marks (stored_marks (marks_of_table t))) output (long two))
