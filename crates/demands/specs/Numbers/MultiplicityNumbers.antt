-- The numbers with which the multiplicity call may refuse.
-- Assumes nothing.
use Rattle.std.specs.Prelude.{◌^◌, ◌||◌, ◌∷◌}
use Rattle.laws.specs.Prelude.{ℕ, refl, List, [], eqb, leb}
use Rattle.rules.specs.Calls.OpenCells.{full_cells}
use Rattle.rules.specs.Lists.{any}
use Rattle.rules.specs.Calls.Multiplicity.{multiplicity_call}
use Rattle.demands.specs.Numbers.Numbers.{Gives, accepts, cells_numbers, by_onward, refuses}
use Rattle.laws.specs.Lists.Tests.{by_test}

abbrev pub multiplicity_numbers : List ℕ
multiplicity_numbers = 9 ∷ 10 ∷ 27 ∷ 11 ∷ []

pub multiplicity_numbers_lem : (m n : ℕ) (cells : List ℕ) (g : ℕ) → Gives multiplicity_numbers (multiplicity_call m n cells g)
unfolding multiplicity_call any
multiplicity_numbers_lem m n cells g =
    by_onward multiplicity_numbers (full_cells m n cells) _ (cells_numbers m n cells multiplicity_numbers refl refl refl)
    (λ _. by_test (Gives multiplicity_numbers) (eqb g 0 || leb (2 ^ n) g) _ _ (refuses multiplicity_numbers 11 0 refl) (accepts multiplicity_numbers _))
