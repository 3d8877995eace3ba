-- Document 02, K3: "The other takes a table sheet, an order number and all of making's buffers, and writes the tree of that number, from 0." 17:
-- "order number not below the count, place the number, judged after 14 and before 15; it takes the place of 16 in the second call and leaves what 16
-- leaves." For every other number the call has the same result as making, except for the sheet; for number 0 exactly the same result.
-- Assumes nothing.
use Rattle.std.specs.Prelude.{◌≤◌, ◌≡◌, ◌↔◌, ◌∷◌}
use Rattle.laws.specs.Prelude.{ℕ, ◌∙◌, sym, ap, refl, List, [], arith}
use Rattle.rules.specs.Calls.Answers.{Answer, accepted, refused, written}
use Rattle.rules.specs.Calls.FamilyCalls.{count_of_table, family_net, family_count_call, family_tree_call}
use Rattle.rules.specs.Calls.Settling.{settled_net, written_sheet, make_call}
use Rattle.rules.specs.Groups.Marks.{stored_marks}
use Rattle.rules.specs.Lists.{any}
use Rattle.rules.specs.Sheets.Printed.{printed_net}
use Rattle.rules.specs.Sheets.Sheets.{Net, Table}
use Rattle.laws.specs.Calls.Answers.{accepted_inj, not_refused}
use Rattle.laws.specs.Lists.Distinct.{NotIn}
use Rattle.laws.specs.Calls.Settling.{marks_of_table, marked_16, marked_tree}
use Rattle.laws.specs.Calls.ButSheet.{ButSheet, but_none, sheets_but}
use Rattle.demands.specs.Numbers.Numbers.{not_given_lem, refuses}
use Rattle.demands.specs.Numbers.SettlingNumbers.{sheet_numbers}
use Rattle.demands.specs.Settling.Makes.{HasTree, make_refuses, two_tree}
use Rattle.demands.specs.Families.FamilyOutcomes.{made_answer, counted_answer, judged_numbers, TurnedBack, GoesOn, marked_leaves, sheet_leaves}
use Rattle.demands.specs.Families.FamilyOutcomes.{NumberJudged, refuses_all, no_number, has_tree, judge_number}
use Rattle.demands.specs.Families.FamilyTables.{none_counted, tree_counted, some_two, first_settled, family_as_long}
use Rattle.demands.specs.Sheets.FullSheets.{FullTableRules, full_accepted}

-- a refusal's place
same_place : (number a b : ℕ) → ◌≡◌ {A = Answer ℕ} (refused number a) (refused number b) → a ≡ b
same_place number a b e = cc

-- a refusal that all three calls give is not one of the later ones
not_judged : (s cells marks : List ℕ) (k at : ℕ) → TurnedBack s cells marks k at → (number place : ℕ) → NotIn number judged_numbers
    → ◌≡◌ {A = Answer ℕ} (refused k at) (refused number place) → ⊥
not_judged s cells marks k at is number place other = not_given_lem judged_numbers (refused k at) (refuses judged_numbers k at is.listed) number place other

-- for any sheet and any buffers
module _ (s cells marks output : List ℕ) where
  kept_on : (t : Table) → GoesOn s cells marks t → FullTableRules t
  kept_on t is = (full_accepted s t is.reads).1

  module _ (r : ℕ) where
    -- the cells and the marks end as making leaves them
    pub tree_leaves : ((family_tree_call s r cells marks output).cells ≡ (make_call s cells marks output).cells)
        × ((family_tree_call s r cells marks output).marks ≡ (make_call s cells marks output).marks)
    tree_leaves = elim (judge_number s r cells marks output) [
      | refuses_all number place is ↦ rw (is.numbers r output, is.makes output) (refl, refl)
      | no_number t is large e ↦
          let made = marked_leaves t cells marks output in
          rw (e, is.makes output) (sym made.cells, sym made.marks)
      | has_tree t is small e ↦
          let made = marked_leaves t cells marks output in
          let left = sheet_leaves (printed_net (family_net r t)) (written cells t.inks) (written marks (stored_marks (marks_of_table t))) output in
          rw (e, is.makes output) (left.cells ∙ sym made.cells, left.marks ∙ sym made.marks)
    ]

    -- "17, order number not below the count, place the number": and it "leaves what 16 leaves", the cells and the marks that the count call and
    -- making leave (`count_leaves`) and the output unchanged
    pub past_count : (count : ℕ) → (family_count_call s cells marks).answer ≡ accepted count → count ≤ r
        → family_tree_call s r cells marks output
        ≡ record { answer = refused 17 r; cells = (family_count_call s cells marks).cells; marks = (family_count_call s cells marks).marks; output = output }
    past_count count d h = elim (judge_number s r cells marks output) [
      | refuses_all k at is ↦ absurd (not_refused count k at (sym d ∙ counted_answer is.counts))
      | no_number t is large e ↦ rw is.counts e
      | has_tree t is small e ↦
          let same = accepted_inj (count_of_table t) count (sym (counted_answer is.counts) ∙ d) in
          absurd (omega arith)
    ]

    -- it refuses with 17 only then: judged after 14, since the count call accepts, and before 15, since the output does not matter
    pub refuses_17 : (place : ℕ)
        → ((family_tree_call s r cells marks output).answer ≡ refused 17 place)
        ↔ ((count : ℕ) × ((family_count_call s cells marks).answer ≡ accepted count) × (count ≤ r) × (place ≡ r))
    unfolding any
    refuses_17 place = (
      go (judge_number s r cells marks output),
      λ (count, d, h, at). made_answer (past_count count d h) ∙ ap (refused 17) (sym at),
    )
      where
        go : NumberJudged s r cells marks output → (family_tree_call s r cells marks output).answer ≡ refused 17 place
            → (count : ℕ) × ((family_count_call s cells marks).answer ≡ accepted count) × (count ≤ r) × (place ≡ r)
        go (refuses_all k at is) d = absurd (not_judged s cells marks k at is 17 place refl (sym (made_answer (is.numbers r output)) ∙ d))
        go (no_number t is large e) d = (count_of_table t, counted_answer is.counts, large, same_place 17 place r (sym d ∙ made_answer e))
        go (has_tree t is small e) d = absurd (not_given_lem (15 ∷ []) _ (sheet_numbers (15 ∷ []) refl _ _ _ output) 17 place refl (sym (made_answer e) ∙ d))

    -- "it takes the place of 16 in the second call": if making refuses with 16, each number is refused with 17, and all buffers end as making
    -- leaves them
    pub in_place_of_16 : (place : ℕ) → (make_call s cells marks output).answer ≡ refused 16 place
        → family_tree_call s r cells marks output
        ≡ record {
          answer = refused 17 r;
          cells = (make_call s cells marks output).cells;
          marks = (make_call s cells marks output).marks;
          output = (make_call s cells marks output).output;
        }
    unfolding any
    in_place_of_16 place d = elim (judge_number s r cells marks output) [
      | refuses_all k at is ↦ absurd (not_judged s cells marks k at is 16 place refl (sym (made_answer (is.makes output)) ∙ d))
      | no_number t is large e ↦ rw (is.makes output, marked_16 settled_net t cells marks output (λ two. no_tree_lem t is ((two_tree t (kept_on t is)).1 two))) e
      | has_tree t is small e ↦ absurd (omega (arith, (none_counted t (kept_on t is)).1 (no_tree_lem t is)))
    ]
      where
        no_tree_lem : (t : Table) → GoesOn s cells marks t → HasTree t → ⊥
        no_tree_lem t is = (make_refuses s t is.reads cells marks output is.cells_fit is.marks_fit).0 (place, d)

    -- If it does not refuse with 17, it has the same result as making, except for the sheet: 15 too, with the same place.
    pub tree_but_sheet : ((place : ℕ) → (family_tree_call s r cells marks output).answer ≡ refused 17 place → ⊥)
        → ButSheet (family_tree_call s r cells marks output) (make_call s cells marks output)
    tree_but_sheet not_17 = elim (judge_number s r cells marks output) [
      | refuses_all k at is ↦ rw (is.numbers r output, is.makes output) (but_none _)
      | no_number t is large e ↦ absurd (not_17 r (made_answer e))
      | has_tree t is small e ↦
          rw (e, is.makes output ∙ marked_tree settled_net t cells marks output (some_two t (kept_on t is) (omega arith)))
          (sheets_but (printed_net (family_net r t)) (printed_net (settled_net t)) _ _ output (family_as_long t (kept_on t is) r small))
    ]

  -- "number 0 is the settled net": if making does not refuse with 16, the call for number 0 has exactly the same result as making
  pub first_as_making : ((place : ℕ) → (make_call s cells marks output).answer ≡ refused 16 place → ⊥)
      → family_tree_call s 0 cells marks output ≡ make_call s cells marks output
  first_as_making not_16 = elim (judge_number s 0 cells marks output) [
    | refuses_all k at is ↦ is.numbers 0 output ∙ sym (is.makes output)
    | no_number t is large e ↦
        absurd (not_16 _ (made_answer
        (is.makes output ∙ marked_16 settled_net t cells marks output (λ two. omega (arith, tree_counted t (kept_on t is) two)))))
    | has_tree t is small e ↦
        e
        ∙ ap (λ (net : Net). written_sheet (printed_net net) (written cells t.inks) (written marks (stored_marks (marks_of_table t))) output)
        (first_settled t (kept_on t is) small)
        ∙ sym (is.makes output ∙ marked_tree settled_net t cells marks output (some_two t (kept_on t is) small))
  ]
