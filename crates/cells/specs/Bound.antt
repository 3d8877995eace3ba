-- The first cell that is at least a bound, and what it means for refusals 10 and 27.
-- Assumes nothing.
use Rattle.std.specs.Prelude.{◌<◌, ◌≤◌, ◌+◌, ◌≡◌}
use Rattle.laws.specs.Prelude.{ℕ, ◌∙◌, sym, ap, true, false, Bool, not, List, dec_lt, arith, leb, length, get_or, le-leb, lt-leb}
use Rattle.rules.specs.Lists.{first_place}
use Rattle.rules.specs.Calls.Answers.{accepted, refused}
use Rattle.rules.specs.Calls.OpenCells.{is_open_of, full}
use Rattle.laws.specs.Calls.OpenCells.{is_open, not_open, full_27, open_none}
use Rattle.laws.specs.Lists.FirstPlaces.{before_first, at_first, place_at_most}

-- the place of the first cell that is at least `bound`, or the number of cells
pub record FirstAtLeast (bound : ℕ) (cells : List ℕ) (place : ℕ) : Type 0 where
  pub most : place ≤ length cells
  pub below : (p : ℕ) → p < place → get_or cells p 0 < bound
  pub reached : place < length cells → bound ≤ get_or cells place 0

-- a place is the first that passes if no place before it passes, and it passes itself or is the end
pub first_is : (test : ℕ → Bool) (xs : List ℕ) (place : ℕ) → place ≤ length xs → ((p : ℕ) → p < place → test (get_or xs p 0) ≡ false)
    → (place < length xs → test (get_or xs place 0) ≡ true) → place ≡ first_place test xs
first_is test xs place most before at = go (dec_lt (first_place test xs) place) (dec_lt place (first_place test xs))
  where
    never : {b : Bool} → b ≡ true → b ≡ false → ⊥
    never t f = let z : ◌≡◌ {A = ℕ} 0 1 = cc in omega arith

    go : Dec (first_place test xs < place) → Dec (place < first_place test xs) → place ≡ first_place test xs
    go (yes h) _ = absurd (never (at_first test 0 xs (omega arith)) (before _ h))
    go (no _) (yes h) = absurd (never (at (omega (arith, place_at_most test xs))) (before_first test 0 xs place h))
    go (no low) (no high) = omega arith

module _ (m : ℕ) (cells : List ℕ) (place : ℕ) where
  -- with the bound m + 1 it is the first cell above m
  pub first_over : FirstAtLeast (m + 1) cells place → place ≡ first_place (λ c. not (leb c m)) cells
  first_over first =
      first_is (λ c. not (leb c m)) cells place first.most (λ p h. ap not (le-leb _ m (omega (arith, first.below p h))))
      (λ h. ap not (lt-leb _ m (omega (arith, first.reached h))))

  -- with the bound m, if no cell is above m, it is the first open cell
  pub first_open : FirstAtLeast m cells place → ((p : ℕ) → p < length cells → get_or cells p 0 ≤ m) → place < length cells → refused 27 place ≡ full m cells
  first_open first within h =
      let is : place ≡ first_place (is_open_of m) cells =
      first_is (is_open_of m) cells place first.most (λ p l. not_open m _ (λ e. omega (arith, first.below p l)))
      (λ l. is_open m _ (omega (arith, first.reached l, within place l))) in
      ap (refused 27) is ∙ sym (full_27 m cells (omega arith))

  pub cell_none_open : FirstAtLeast m cells place → length cells ≤ place → accepted tt ≡ full m cells
  cell_none_open first h = sym (open_none m cells (λ p l e. omega (arith, first.below p (omega arith))))
