-- Making and the two calls of a family first judge the same: the sheet, then room for the cells and for the marks. So either all three refuse in the
-- same way and change no buffer, or each continues with the same table.
-- Assumes nothing.
use Rattle.std.specs.Prelude.{◌<◌, ◌≤◌, ◌^◌, ◌≡◌, ◌∷◌}
use Rattle.laws.specs.Prelude.{ℕ, ◌∙◌, ap, refl, List, [], dec_lt, ℕ_discrete, arith, ltb, length, answer_cases, by_cases}
use Rattle.rules.specs.Calls.Answers.{accepted, refused, written}
use Rattle.rules.specs.Calls.FamilyCalls.{count_of_table, family_net, Counted, family_count_call, after_count, family_tree_call}
use Rattle.rules.specs.Calls.OpenCells.{read_full}
use Rattle.rules.specs.Calls.Settling.{Made, settled_net, written_sheet, after_marks, room_for, make_call}
use Rattle.rules.specs.Groups.Marks.{marks_length, stored_marks}
use Rattle.rules.specs.Lists.{all, any}
use Rattle.rules.specs.Sheets.Printed.{printed_net}
use Rattle.rules.specs.Sheets.Sheets.{Table}
use Rattle.laws.specs.Lists.Tests.{by_test}
use Rattle.laws.specs.Lists.Distinct.{In, not_in_cons, wider}
use Rattle.laws.specs.Calls.Settling.{marks_of_table, room_fits, into_refused, into_marked, marked_16, marked_tree, make_refused, make_accepted}
use Rattle.laws.specs.Calls.FamilyCalls.{counted_refused, counted_marked, count_17, count_tree, family_count_refused, family_count_accepted}
use Rattle.laws.specs.Calls.FamilyCalls.{family_tree_refused, family_tree_accepted}
use Rattle.demands.specs.Sheets.FullSheets.{full_numbers, full_refusal}
use Rattle.demands.specs.Numbers.Numbers.{not_given_lem, refuses}
use Rattle.demands.specs.Numbers.SettlingNumbers.{sheet_numbers, room_numbers}

-- equal results have equal answers
pub made_answer : {made other : Made} → made ≡ other → made.answer ≡ other.answer
made_answer e = ap (λ (m : Made). m.answer) e

pub counted_answer : {counted other : Counted} → counted ≡ other → counted.answer ≡ other.answer
counted_answer e = ap (λ (c : Counted). c.answer) e

-- the numbers for a sheet of a full table, 13 and 14
abbrev pub judged_numbers : List ℕ
judged_numbers = 1 ∷ 2 ∷ 3 ∷ 4 ∷ 5 ∷ 6 ∷ 27 ∷ 13 ∷ 14 ∷ []

module _ (s cells marks : List ℕ) where
  -- all three refuse in the same way
  pub record TurnedBack (number place : ℕ) : Type 0 where
    pub listed : In number judged_numbers
    pub counts : family_count_call s cells marks ≡ record { answer = refused number place; cells = cells; marks = marks }
    pub numbers : (r : ℕ) (output : List ℕ)
        → family_tree_call s r cells marks output ≡ record { answer = refused number place; cells = cells; marks = marks; output = output }
    pub makes : (output : List ℕ) → make_call s cells marks output ≡ record { answer = refused number place; cells = cells; marks = marks; output = output }

  -- each continues
  pub record GoesOn (t : Table) : Type 0 where
    pub reads : read_full s ≡ accepted t
    pub cells_fit : t.header.levels ^ t.header.inputs ≤ length cells
    pub marks_fit : marks_length t.header.inputs ≤ length marks
    pub counts : family_count_call s cells marks
        ≡ record { answer = accepted (count_of_table t); cells = written cells t.inks; marks = written marks (stored_marks (marks_of_table t)) }
    pub numbers : (r : ℕ) (output : List ℕ) → family_tree_call s r cells marks output ≡ after_count r t cells marks output
    pub makes : (output : List ℕ) → make_call s cells marks output ≡ after_marks settled_net t cells marks output

-- one of the two
pub data SheetJudged (s cells marks : List ℕ) : Type 0 where
  turned_back_lem : (number place : ℕ) → TurnedBack s cells marks number place → SheetJudged s cells marks
  goes_on : (t : Table) → GoesOn s cells marks t → SheetJudged s cells marks

module _ (s cells marks : List ℕ) where
  -- an accepted sheet of a full table, and room
  pub on_with : (t : Table) → read_full s ≡ accepted t → t.header.levels ^ t.header.inputs ≤ length cells → marks_length t.header.inputs ≤ length marks
      → GoesOn s cells marks t
  on_with t reads cells_fit marks_fit = record {
    reads = reads;
    cells_fit = cells_fit;
    marks_fit = marks_fit;
    counts = family_count_accepted s cells marks t reads ∙ counted_marked t cells marks cells_fit marks_fit;
    numbers = λ r output. family_tree_accepted s r cells marks output t reads ∙ into_marked t cells marks output _ cells_fit marks_fit;
    makes = λ output. make_accepted s cells marks output t reads ∙ into_marked t cells marks output _ cells_fit marks_fit;
  }

  -- for any sheet and any buffers
  pub judge : SheetJudged s cells marks
  unfolding any all
  judge = answer_cases (read_full s)
      (λ number place e. turned_back_lem number place (record {
        listed = wider full_numbers judged_numbers refl number (full_refusal s number place e);
        counts = family_count_refused s cells marks number place e;
        numbers = λ r output. family_tree_refused s r cells marks output number place e;
        makes = λ output. make_refused s cells marks output number place e;
      }))
      (λ t e. answer_cases (room_for t cells marks)
      (λ number need d. turned_back_lem number need (record {
        listed = room_numbers t cells marks judged_numbers refl refl number need d;
        counts = family_count_accepted s cells marks t e ∙ counted_refused t cells marks number need d;
        numbers = λ r output. family_tree_accepted s r cells marks output t e ∙ into_refused t cells marks output _ number need d;
        makes = λ output. make_accepted s cells marks output t e ∙ into_refused t cells marks output _ number need d;
      }))
      (λ _ d. let fits = room_fits t cells marks d in goes_on t (on_with t e fits.0 fits.1)))

-- ---- once the marks are written

-- what is left in the cells and the marks
pub record Leaves (inks all_marks_lem : List ℕ) (made : Made) : Type 0 where
  pub cells : made.cells ≡ inks
  pub marks : made.marks ≡ all_marks_lem

pub sheet_leaves : (sheet cells marks output : List ℕ) → Leaves cells marks (written_sheet sheet cells marks output)
unfolding written_sheet
sheet_leaves sheet cells marks output =
    by_test (Leaves cells marks) (ltb (length output) (length sheet)) _ _ (record { cells = refl; marks = refl }) (record { cells = refl; marks = refl })

module _ (t : Table) (cells marks output : List ℕ) where
  abbrev ink_cells : List ℕ
  ink_cells = written cells t.inks

  abbrev all_marks : List ℕ
  all_marks = written marks (stored_marks (marks_of_table t))

  -- making leaves the inks and the marks, ..
  pub marked_leaves : Leaves ink_cells all_marks (after_marks settled_net t cells marks output)
  marked_leaves = by_cases (ℕ_discrete _ 2)
      (λ two. rw (marked_tree settled_net t cells marks output two) (sheet_leaves (printed_net (settled_net t)) ink_cells all_marks output))
      (λ none. rw (marked_16 settled_net t cells marks output none) (record { cells = refl; marks = refl }))

  -- .. and refuses only with 16 or 15
  pub marked_numbers : (number place : ℕ) → (number ≡ 15 → ⊥) → (number ≡ 16 → ⊥)
      → (after_marks settled_net t cells marks output).answer ≡ refused number place → ⊥
  unfolding any
  marked_numbers number place not_15 not_16 =
      let not_listed = (not_in_cons number 16 (15 ∷ [])).1 (not_16, (not_in_cons number 15 []).1 (not_15, refl)) in
      by_cases (ℕ_discrete _ 2)
      (λ two. rw (marked_tree settled_net t cells marks output two)
      (not_given_lem (16 ∷ 15 ∷ []) _ (sheet_numbers (16 ∷ 15 ∷ []) refl (printed_net (settled_net t)) ink_cells all_marks output) number place not_listed))
      (λ none. rw (marked_16 settled_net t cells marks output none)
      (not_given_lem {A = ℕ} (16 ∷ 15 ∷ []) _ (refuses (16 ∷ 15 ∷ []) 16 _ refl) number place not_listed))

-- ---- the call for a number, after everything judged before it

-- all three calls refuse; or the number is not below the count; or the sheet of that number is written, if the output has room
pub data NumberJudged (s : List ℕ) (r : ℕ) (cells marks output : List ℕ) : Type 0 where
  refuses_all : (number place : ℕ) → TurnedBack s cells marks number place → NumberJudged s r cells marks output
  no_number : (t : Table) → GoesOn s cells marks t → count_of_table t ≤ r
      → family_tree_call s r cells marks output
      ≡ record { answer = refused 17 r; cells = written cells t.inks; marks = written marks (stored_marks (marks_of_table t)); output = output }
      → NumberJudged s r cells marks output
  has_tree : (t : Table) → GoesOn s cells marks t → r < count_of_table t
      → family_tree_call s r cells marks output
      ≡ written_sheet (printed_net (family_net r t)) (written cells t.inks) (written marks (stored_marks (marks_of_table t))) output
      → NumberJudged s r cells marks output

pub judge_number : (s : List ℕ) (r : ℕ) (cells marks output : List ℕ) → NumberJudged s r cells marks output
judge_number s r cells marks output = elim (judge s cells marks) [
  | turned_back_lem number place is ↦ refuses_all number place is
  | goes_on t is ↦ by t is (dec_lt r (count_of_table t))
]
  where
    by : (t : Table) → GoesOn s cells marks t → Dec (r < count_of_table t) → NumberJudged s r cells marks output
    by t is (yes small) = has_tree t is small (is.numbers r output ∙ count_tree r t cells marks output small)
    by t is (no large) = no_number t is (omega arith) (is.numbers r output ∙ count_17 r t cells marks output (omega arith))
