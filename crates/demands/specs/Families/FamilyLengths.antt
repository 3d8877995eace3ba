-- With buffers of the lengths that include/sitgurp.h calls enough, the count call refuses only with its sheet's numbers, and the call for a number
-- with those and 17.
-- Assumes nothing.
use Rattle.std.specs.Prelude.{◌<◌, ◌≤◌, ◌≡◌, ◌∷◌}
use Rattle.laws.specs.Prelude.{ℕ, ◌∙◌, sym, refl, List, [], le_trans, length, answer_cases}
use Rattle.rules.specs.Calls.Answers.{Answer, accepted, refused}
use Rattle.rules.specs.Calls.FamilyCalls.{count_of_table, Counted, family_net, family_count_call, family_tree_call}
use Rattle.rules.specs.Calls.OpenCells.{read_full}
use Rattle.rules.specs.Calls.Settling.{Made}
use Rattle.rules.specs.Limits.{most_cells}
use Rattle.rules.specs.Lists.{all, any}
use Rattle.rules.specs.Sheets.Printed.{printed_net}
use Rattle.rules.specs.Sheets.Sheets.{Table}
use Rattle.laws.specs.Calls.Answers.{not_refused}
use Rattle.laws.specs.Lists.Distinct.{In, wider}
use Rattle.laws.specs.Calls.FamilyCalls.{family_count_refused, family_tree_refused}
use Rattle.demands.specs.Numbers.Numbers.{Gives, refuses}
use Rattle.demands.specs.Settling.Settles.{Long}
use Rattle.demands.specs.Sheets.Lengths.{most_marks, kept_cells, kept_marks, Ample, no_refusal}
use Rattle.demands.specs.Families.FamilyOutcomes.{made_answer, counted_answer, GoesOn, on_with, NumberJudged, refuses_all, no_number, has_tree}
use Rattle.demands.specs.Families.FamilyOutcomes.{judge_number}
use Rattle.demands.specs.Families.FamilyTables.{family_as_long}
use Rattle.demands.specs.Families.FamilySheets.{writes_tree, tree_short}
use Rattle.demands.specs.Sheets.FullSheets.{full_numbers, full_accepted, full_refusal}

-- enough for the cells and the marks of every accepted sheet of a full table
ample_on : (s cells marks : List ℕ) → most_cells ≤ length cells → most_marks ≤ length marks → (t : Table) → read_full s ≡ accepted t → GoesOn s cells marks t
ample_on s cells marks cells_most marks_most t reads =
    let kept = (full_accepted s t reads).1.header in
    on_with s cells marks t reads (le_trans (kept_cells t.header kept) cells_most) (le_trans (kept_marks t.header kept) marks_most)

pub family_count_ample_numbers : (s cells marks : List ℕ) → most_cells ≤ length cells → most_marks ≤ length marks
    → Gives full_numbers (family_count_call s cells marks).answer
family_count_ample_numbers s cells marks cells_most marks_most number place e = answer_cases (read_full s)
    (λ k at d. refuses full_numbers k at (full_refusal s k at d) number place (answer _ (family_count_refused s cells marks k at d)))
    (λ t d. absurd (not_refused (count_of_table t) number place (answer _ (ample_on s cells marks cells_most marks_most t d).counts)))
  where
    answer : (made : Counted) → family_count_call s cells marks ≡ made → made.answer ≡ refused number place
    answer made d = sym (counted_answer d) ∙ e

-- the sheet's numbers and 17
abbrev pub table_or_number : List ℕ
table_or_number = 1 ∷ 2 ∷ 3 ∷ 4 ∷ 5 ∷ 6 ∷ 27 ∷ 17 ∷ []

module _ (s : List ℕ) (r : ℕ) (cells marks output : List ℕ) (ample : Ample cells marks output) where
  -- they are long enough for each number below the count, ..
  pub family_tree_ample : (t : Table) → read_full s ≡ accepted t → r < count_of_table t → Long t cells marks output
  family_tree_ample t reads below =
      let on = ample_on s cells marks ample.cells_most ample.marks_most t reads in
      record {
        cells_fit = on.cells_fit;
        marks_fit = on.marks_fit;
        output_fits = rw (family_as_long t (full_accepted s t reads).1 r below) at (le_trans (tree_short s t reads r below) ample.output_most);
      }

  -- .. and each other number is refused with 17
  pub family_tree_ample_numbers : Gives table_or_number (family_tree_call s r cells marks output).answer
  unfolding any all
  family_tree_ample_numbers number place e = go (read_full s) refl (judge_number s r cells marks output)
    where
      answer : (made : Made) → family_tree_call s r cells marks output ≡ made → made.answer ≡ refused number place
      answer made d = sym (made_answer d) ∙ e

      go : (a : Answer Table) → read_full s ≡ a → NumberJudged s r cells marks output → In number table_or_number
      go (refused k at) d _ =
          refuses table_or_number k at (wider full_numbers table_or_number refl k (full_refusal s k at d)) number place
          (answer _ (family_tree_refused s r cells marks output k at d))
      go (accepted t) d (no_number u is large made) = refuses table_or_number 17 r refl number place (answer _ made)
      go (accepted t) d (has_tree u is small made) =
          absurd (no_refusal (family_tree_call s r cells marks output) (printed_net (family_net r u)) number place
          (writes_tree s u is.reads r small cells marks output (family_tree_ample u is.reads small)) e)
      go (accepted t) d (refuses_all k at is) =
          absurd (not_refused (count_of_table t)
          k at (sym (counted_answer (ample_on s cells marks ample.cells_most ample.marks_most t d).counts) ∙ counted_answer is.counts))
