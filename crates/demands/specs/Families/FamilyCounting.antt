-- Document 02, K3: "One call takes a table sheet with making's cells and marks buffers, no output, and answers the count of the trees." "A table with
-- no tree gets count 0, never 16." What the count counts is in `FamilySheets`.
-- Assumes nothing.
use Rattle.std.specs.Prelude.{◌<◌, ◌≤◌, ◌^◌, ◌≡◌, ◌↔◌}
use Rattle.laws.specs.Prelude.{ℕ, ◌∙◌, sym, ap, refl, iff_trans, List, [], length}
use Rattle.rules.specs.Calls.Answers.{accepted, refused}
use Rattle.rules.specs.Calls.FamilyCalls.{count_of_table, family_count_call}
use Rattle.rules.specs.Calls.OpenCells.{read_full}
use Rattle.rules.specs.Calls.Settling.{make_call}
use Rattle.rules.specs.Groups.Marks.{marks_length}
use Rattle.rules.specs.Lists.{any}
use Rattle.rules.specs.Sheets.Sheets.{Table}
use Rattle.laws.specs.Calls.Answers.{accepted_inj, not_refused}
use Rattle.trees.specs.Families.FamilyBounds.{trees_on}
use Rattle.demands.specs.Numbers.Numbers.{not_given_lem, refuses}
use Rattle.demands.specs.Settling.Makes.{HasTree, HasSheet, make_refuses, make_refuses_sheets}
use Rattle.demands.specs.Families.FamilyOutcomes.{made_answer, counted_answer, judged_numbers, turned_back_lem, goes_on, on_with}
use Rattle.demands.specs.Families.FamilyOutcomes.{judge, marked_leaves, marked_numbers}
use Rattle.demands.specs.Numbers.FamilyNumbers.{family_count_numbers}
use Rattle.demands.specs.Families.FamilyTables.{none_counted, table_bound, table_fits}
use Rattle.demands.specs.Sheets.FullSheets.{full_accepted}

-- ---- compared with making, whatever the sheet and the buffers

module _ (s cells marks : List ℕ) where
  module _ (output : List ℕ) where
    -- the cells and the marks end as making leaves them
    pub count_leaves : ((family_count_call s cells marks).cells ≡ (make_call s cells marks output).cells)
        × ((family_count_call s cells marks).marks ≡ (make_call s cells marks output).marks)
    count_leaves = elim (judge s cells marks) [
      | turned_back_lem number place is ↦ rw (is.counts, is.makes output) (refl, refl)
      | goes_on t is ↦
          let left = marked_leaves t cells marks output in
          rw (is.counts, is.makes output) (sym left.cells, sym left.marks)
    ]

    -- it refuses as making does, except with 15 and 16
    pub count_refuses : (number place : ℕ)
        → ((family_count_call s cells marks).answer ≡ refused number place)
        ↔ (((make_call s cells marks output).answer ≡ refused number place) × (number ≡ 15 → ⊥) × (number ≡ 16 → ⊥))
    unfolding any
    count_refuses number place = elim (judge s cells marks) [
      | turned_back_lem k at is ↦
          let same = made_answer (is.makes output) ∙ sym (counted_answer is.counts) in
          (λ e. (same ∙ e, (not_so e).0, (not_so e).1), λ (e, _, _). sym same ∙ e)
      | goes_on t is ↦ (
        λ e. absurd (not_refused (count_of_table t) number place (sym (counted_answer is.counts) ∙ e)),
        λ (e, not_15, not_16). absurd (marked_numbers t cells marks output number place not_15 not_16 (sym (made_answer (is.makes output)) ∙ e)),
      )
    ]
      where
        other : (k : ℕ) → ((family_count_call s cells marks).answer ≡ refused number place) → (number ≡ k)
            → (family_count_call s cells marks).answer ≡ refused k place
        other k e q = e ∙ ap (λ (j : ℕ). refused j place) q

        not_so : ((family_count_call s cells marks).answer ≡ refused number place) → (number ≡ 15 → ⊥) × (number ≡ 16 → ⊥)
        not_so e = (
          λ q. not_given_lem judged_numbers _ (family_count_numbers s cells marks) 15 place refl (other 15 e q),
          λ q. not_given_lem judged_numbers _ (family_count_numbers s cells marks) 16 place refl (other 16 e q),
        )

    -- "A table with no tree gets count 0, never 16.": 0 exactly if making refuses with 16
    pub count_0 : ((family_count_call s cells marks).answer ≡ accepted 0) ↔ ((place : ℕ) × ((make_call s cells marks output).answer ≡ refused 16 place))
    unfolding any
    count_0 = elim (judge s cells marks) [
      | turned_back_lem k at is ↦ (
        λ e. absurd (not_refused {A = ℕ} 0 k at (sym e ∙ counted_answer is.counts)),
        λ (place, e). absurd (not_given_lem {A = ℕ} judged_numbers (refused k at) (refuses judged_numbers k at is.listed) 16 place refl
            (sym (made_answer (is.makes output)) ∙ e)),
      )
      | goes_on t is ↦
          let none = none_counted t (full_accepted s t is.reads).1 in
          let refused_16 = make_refuses s t is.reads cells marks output is.cells_fit is.marks_fit in (
            λ e. refused_16.1 (none.0 (accepted_inj (count_of_table t) 0 (sym (counted_answer is.counts) ∙ e))),
            λ r. counted_answer is.counts ∙ ap accepted (none.1 (refused_16.0 r)),
          )
    ]

  -- 64 bits are enough for every answer
  pub count_in_64_bits : (count : ℕ) → (family_count_call s cells marks).answer ≡ accepted count → count < 2 ^ 64
  count_in_64_bits count e = elim (judge s cells marks) [
    | turned_back_lem k at is ↦ absurd (not_refused count k at (sym e ∙ counted_answer is.counts))
    | goes_on t is ↦ rw (accepted_inj (count_of_table t) count (sym (counted_answer is.counts) ∙ e)) at (table_fits t (full_accepted s t is.reads).1)
  ]

-- ---- an accepted sheet of a full table

module _ (s : List ℕ) (t : Table) (reads : read_full s ≡ accepted t) where
  -- there are at most (2n − 3)!! trees
  pub count_most : count_of_table t ≤ trees_on t.header.inputs
  count_most = table_bound t (full_accepted s t reads).1

  -- with room for the cells and the marks
  module _ (cells marks : List ℕ) (cells_fit : t.header.levels ^ t.header.inputs ≤ length cells)
      (marks_fit : marks_length t.header.inputs ≤ length marks) where
    -- "answers the count of the trees", ..
    pub counts_trees : (family_count_call s cells marks).answer ≡ accepted (count_of_table t)
    counts_trees = counted_answer (on_with s cells marks t reads cells_fit marks_fit).counts

    -- .. and 0 exactly if no gate list, whatever its wiring and its tables, is a net that computes the table, ..
    pub count_0_no_tree : ((family_count_call s cells marks).answer ≡ accepted 0) ↔ (HasTree t → ⊥)
    count_0_no_tree = iff_trans (count_0 s cells marks []) (make_refuses s t reads cells marks [] cells_fit marks_fit)

    -- .. and so exactly if no accepted net sheet with those levels and names has it.
    pub count_0_no_sheet : ((family_count_call s cells marks).answer ≡ accepted 0) ↔ (HasSheet t → ⊥)
    count_0_no_sheet = iff_trans (count_0 s cells marks []) (make_refuses_sheets s t reads cells marks [] cells_fit marks_fit)
