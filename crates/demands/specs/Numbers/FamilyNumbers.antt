-- The numbers with which the two calls of a family may refuse: making's, except 16. "A table with no tree gets count 0, never 16", and 17 "takes the
-- place of 16 in the second call".
-- Assumes nothing.
use Rattle.std.specs.Prelude.{◌≡◌, ◌∷◌}
use Rattle.laws.specs.Prelude.{ℕ, ◌∙◌, sym, refl, List, []}
use Rattle.rules.specs.Calls.Answers.{refused}
use Rattle.rules.specs.Calls.FamilyCalls.{count_of_table, Counted, family_count_call, family_tree_call}
use Rattle.rules.specs.Calls.Settling.{Made}
use Rattle.rules.specs.Lists.{all, any}
use Rattle.laws.specs.Calls.Answers.{not_refused}
use Rattle.laws.specs.Lists.Distinct.{In, wider}
use Rattle.demands.specs.Numbers.Numbers.{Gives, not_given_lem, refuses}
use Rattle.demands.specs.Numbers.SettlingNumbers.{sheet_numbers}
use Rattle.demands.specs.Families.FamilyOutcomes.{made_answer, counted_answer, judged_numbers, turned_back_lem, goes_on, judge}
use Rattle.demands.specs.Families.FamilyOutcomes.{NumberJudged, refuses_all, no_number, has_tree, judge_number}

-- those, 17 and 15
abbrev pub family_tree_numbers : List ℕ
family_tree_numbers = 1 ∷ 2 ∷ 3 ∷ 4 ∷ 5 ∷ 6 ∷ 27 ∷ 13 ∷ 14 ∷ 17 ∷ 15 ∷ []

module _ (s cells marks : List ℕ) where
  -- the count: the sheet's numbers, 13 and 14
  pub family_count_numbers : Gives judged_numbers (family_count_call s cells marks).answer
  family_count_numbers number place e = elim (judge s cells marks) [
    | turned_back_lem k at is ↦ refuses judged_numbers k at is.listed number place (answer _ is.counts)
    | goes_on t is ↦ absurd (not_refused (count_of_table t) number place (answer _ is.counts))
  ]
    where
      answer : (made : Counted) → family_count_call s cells marks ≡ made → made.answer ≡ refused number place
      answer made d = sym (counted_answer d) ∙ e

  -- "never 16", ..
  pub family_count_never_16 : (place : ℕ) → (family_count_call s cells marks).answer ≡ refused 16 place → ⊥
  unfolding any
  family_count_never_16 place = not_given_lem judged_numbers _ family_count_numbers 16 place refl

module _ (s : List ℕ) (r : ℕ) (cells marks output : List ℕ) where
  -- the tree of a number: also 17 and 15
  pub family_tree_numbers_lem : Gives family_tree_numbers (family_tree_call s r cells marks output).answer
  unfolding any all
  family_tree_numbers_lem number place e = go (judge_number s r cells marks output)
    where
      answer : (made : Made) → family_tree_call s r cells marks output ≡ made → made.answer ≡ refused number place
      answer made d = sym (made_answer d) ∙ e

      go : NumberJudged s r cells marks output → In number family_tree_numbers
      go (refuses_all k at is) =
          refuses family_tree_numbers k at (wider judged_numbers family_tree_numbers refl k is.listed) number place (answer _ (is.numbers r output))
      go (no_number t is large e) = refuses family_tree_numbers 17 r refl number place (answer _ e)
      go (has_tree t is small e) = sheet_numbers family_tree_numbers refl _ _ _ output number place (answer _ e)

  -- 17 instead of 16
  pub family_tree_never_16 : (place : ℕ) → (family_tree_call s r cells marks output).answer ≡ refused 16 place → ⊥
  unfolding any
  family_tree_never_16 place = not_given_lem family_tree_numbers _ family_tree_numbers_lem 16 place refl
