-- The result of the multiplicity call, one law for each outcome.
-- Assumes nothing.
use Rattle.std.specs.Prelude.{◌<◌, ◌≤◌, ◌^◌, ◌≡◌, ◌||◌}
use Rattle.laws.specs.Prelude.{ℕ, true, false, or-true, List, eqb, leb, eq-eqb, ne_eqb, le-leb, lt-leb}
use Rattle.rules.specs.Calls.Answers.{ink_in}
use Rattle.rules.specs.Calls.OpenCells.{full_cells}
use Rattle.rules.specs.Groups.Groups.{multiplicity}
use Rattle.rules.specs.Calls.Answers as answers
use Rattle.rules.specs.Calls.Multiplicity.{multiplicity_call}

-- the multiplicity call once the bare cells are accepted and full
unfoldable pub group_answer : ℕ → ℕ → List ℕ → ℕ → answers.Answer ℕ
group_answer m n cells g = elim (eqb g 0 || leb (2 ^ n) g) [
  | true ↦ answers.refused 11 0
  | false ↦ answers.accepted (multiplicity m n (ink_in cells) g)
]

module _ (m n : ℕ) (cells : List ℕ) where
  pub multiplicity_refused : (g number place : ℕ) → answers.refused number place ≡ full_cells m n cells
      → answers.refused number place ≡ multiplicity_call m n cells g
  unfolding multiplicity_call answers.onward
  multiplicity_refused g number place e = rw (← e)

  pub multiplicity_judged : (g : ℕ) → answers.accepted tt ≡ full_cells m n cells → group_answer m n cells g ≡ multiplicity_call m n cells g
  unfolding multiplicity_call answers.onward group_answer
  multiplicity_judged g e = rw (← e)

  pub group_empty : (g : ℕ) → g ≡ 0 → answers.refused 11 0 ≡ group_answer m n cells g
  unfolding group_answer
  group_empty g e = rw (eq-eqb g 0 e, group_answer)

  pub group_past : (g : ℕ) → 2 ^ n ≤ g → answers.refused 11 0 ≡ group_answer m n cells g
  unfolding group_answer
  group_past g h = rw (le-leb (2 ^ n) g h, or-true (eqb g 0), group_answer)

  pub group_counted : (g r : ℕ) → (g ≡ 0 → ⊥) → g < 2 ^ n → r ≡ multiplicity m n (ink_in cells) g
      → answers.accepted r ≡ group_answer m n cells g
  unfolding group_answer
  group_counted g r some below e = rw (ne_eqb g 0 some, lt-leb (2 ^ n) g below, e, group_answer)
