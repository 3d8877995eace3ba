-- Document 02, K14, for the family of a table's trees: two full table sheets, one a renaming of the other's inks, have equally many trees, and under
-- every number sheets that differ only by the renaming in the last table.
-- Assumes nothing.
use Rattle.std.specs.Prelude.{◌<◌, ◌≤◌, ◌^◌, ◌≡◌}
use Rattle.laws.specs.Prelude.{ℕ, ◌∙◌, ap, subst, List, dec_lt, arith, length, take}
use Rattle.rules.specs.Calls.Answers.{accepted, ink_in}
use Rattle.rules.specs.Calls.FamilyCalls.{Counted, count_of_table, family_net, family_count_call, family_tree_call, after_count}
use Rattle.rules.specs.Calls.Settling.{settled_net}
use Rattle.rules.specs.Groups.Marks.{marks_length, stored_marks}
use Rattle.rules.specs.Sheets.Printed.{printed_net}
use Rattle.rules.specs.Sheets.Sheets.{Table}
use Rattle.laws.specs.Calls.Settling.{marks_of_table, into_marked}
use Rattle.laws.specs.Calls.FamilyCalls.{counted_marked, family_count_accepted, count_17, count_tree, family_tree_accepted}
use Rattle.trees.specs.Trees.NetTables.{inputs_several}
use Rattle.trees.specs.Renaming.RenamedWirings.{count_renamed}
use Rattle.trees.proofs.Renaming.RenamedNets.{family_renamed}
use Rattle.demands.specs.Sheets.FullSheets.{FullTableRules}
use Rattle.demands.specs.Settling.Makes.{two_tree}
use Rattle.demands.specs.Families.FamilyTables.{some_two, family_as_long}
use Rattle.demands.specs.Families.FamilySheets.{tree_accepted}
use Rattle.demands.specs.Renaming.RenamedSheets.{letters_of, RenamedTables, kept_one, positive, is_renamed, reads_renamed, kept_other}
use Rattle.demands.specs.Renaming.RenamedSheets.{renamed_inks_below, inks_renamed, same_inks, same_marks, RenamedNets, nets_renamed}
use Rattle.demands.specs.Renaming.Renaming.{Enough, AlikeMade, left_marks, alike_refused, alike_written, stored_count}

-- the results of the two count calls: the same answer and the same marks
pub record AlikeCounted (n : ℕ) (counted other : Counted) : Type 0 where
  pub answers : counted.answer ≡ other.answer
  pub marks : take (marks_length n) counted.marks ≡ take (marks_length n) other.marks

-- making's buffers are long enough for the sheet of each number
number_fits : (t : Table) → FullTableRules t → (number : ℕ) → number < count_of_table t → (cells marks output : List ℕ) → Enough settled_net t cells marks output
    → length (printed_net (family_net number t)) ≤ length output
number_fits t kept number less cells marks output enough =
    rw (family_as_long t kept number less) (enough.output_fits ((two_tree t kept).1 (some_two t kept (omega arith))))

module _ (r : ℕ → ℕ) (s other : List ℕ) (both : RenamedTables r s other) where
  open letters_of r s other both use {t, u, m, n}

  -- equally many trees
  same_count : count_of_table t ≡ count_of_table u
  unfolding count_of_table
  same_count = count_renamed m n (positive r s other both) (ink_in t.inks) (ink_in u.inks) (same_inks r s other both)

  -- "answers the count of the trees": the same count
  pub counts_renamed : (cells marks cells' marks' : List ℕ) → m ^ n ≤ length cells → marks_length n ≤ length marks → m ^ n ≤ length cells'
      → marks_length n ≤ length marks'
      → AlikeCounted n (family_count_call s cells marks) (family_count_call other cells' marks')
  counts_renamed cells marks cells' marks' cells_fit marks_fit cells_fit' marks_fit' =
      rw (
        family_count_accepted s cells marks t both.reads ∙ counted_marked t cells marks cells_fit marks_fit,
        family_count_accepted other cells' marks' u (reads_renamed r s other both) ∙ counted_marked u cells' marks' cells_fit' marks_fit',
        ← (same_marks r s other both),
      )
      (record { answers = ap accepted same_count; marks = left_marks r n (stored_marks (marks_of_table t)) (stored_count r s other both) marks marks' })

  -- the sheets of a number
  number_sheets : (number : ℕ) → number < count_of_table t → RenamedNets r (printed_net (family_net number t)) (printed_net (family_net number u))
  unfolding family_net count_of_table
  number_sheets number less =
      nets_renamed r t.header _ _ (tree_accepted s t both.reads number less)
      (tree_accepted other u (reads_renamed r s other both) number (subst (λ (k : ℕ). number < k) same_count less))
      (family_renamed m n (positive r s other both) r (ink_in t.inks) (ink_in u.inks) (renamed_inks_below r s other both) (inks_renamed r s other both)
      (inputs_several n (kept_one r s other both).header.inputs) number less)

  -- "writes the tree of that number": both are refused, or both made, in buffers that are long enough for making
  pub numbers_renamed : (number : ℕ) (cells marks output cells' marks' output' : List ℕ) → Enough settled_net t cells marks output
      → Enough settled_net both.renamed cells' marks' output'
      → AlikeMade r n (family_tree_call s number cells marks output) (family_tree_call other number cells' marks' output')
  numbers_renamed number cells marks output cells' marks' output' enough enough_other = elim (dec_lt number (count_of_table t)) [
    | no large ↦
        rw (
          judged ∙ count_17 number t cells marks output (omega arith),
          judged' ∙ count_17 number u cells' marks' output' (omega (arith, same_count)),
          ← (same_marks r s other both),
        )
        (alike_refused r n (stored_marks (marks_of_table t)) (stored_count r s other both) marks marks' 17 number _ _ output output')
    | yes less ↦
        let less' : number < count_of_table u = omega (arith, same_count) in
        rw (
          judged ∙ count_tree number t cells marks output less,
          judged' ∙ count_tree number u cells' marks' output' less',
          ← (same_marks r s other both),
        )
        (alike_written r n (stored_marks (marks_of_table t)) (stored_count r s other both) marks marks' _ _ _ _ output output' (number_sheets number less)
        (number_fits t (kept_one r s other both) number less cells marks output enough)
        (number_fits u (kept_other r s other both) number less' cells' marks' output' enough'))
  ]
    where
      enough' : Enough settled_net u cells' marks' output'
      enough' = subst (λ (v : Table). Enough settled_net v cells' marks' output') (is_renamed r s other both) enough_other

      judged : family_tree_call s number cells marks output ≡ after_count number t cells marks output
      judged = family_tree_accepted s number cells marks output t both.reads ∙ into_marked t cells marks output _ enough.cells_fit enough.marks_fit

      judged' : family_tree_call other number cells' marks' output' ≡ after_count number u cells' marks' output'
      judged' =
          family_tree_accepted other number cells' marks' output' u (reads_renamed r s other both)
          ∙ into_marked u cells' marks' output' _ enough'.cells_fit enough'.marks_fit
