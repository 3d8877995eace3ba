-- Document 02, K4, by small cases: inputs a b c of two levels, and the two assignments of b, whose indices are 0 and 2. The other inputs, a and c,
-- are counted with a slowest, so the columns of the two are the cells 0 1 4 5 and 2 3 6 7.
-- Assumes nothing.
use Rattle.std.specs.Prelude.{ℕ, ◌≡◌, refl, List, [], ◌∷◌}
use Rattle.std.proofs.Math.Option.{Option, none, some}
use Rattle.rules.specs.Calls.Answers.{ink_in}
use Rattle.rules.specs.Groups.Differences.{first_difference}
use Rattle.rules.specs.Evaluation.{computing}

-- the first difference of b's two assignments
unfoldable pub of_b : List ℕ → Option ℕ
of_b cells = first_difference 2 3 (ink_in cells) 2 0 2

-- the inks differ at two places; the first is reported, as its place and not as its index, which is 4
pub first_of_two : of_b (0 ∷ 1 ∷ 0 ∷ 1 ∷ 1 ∷ 0 ∷ 0 ∷ 1 ∷ []) ≡ some 2
unfolding computing of_b
first_of_two = refl

-- only the last column differs
pub last_alone : of_b (0 ∷ 1 ∷ 0 ∷ 1 ∷ 1 ∷ 0 ∷ 1 ∷ 1 ∷ []) ≡ some 3
unfolding computing of_b
last_alone = refl

-- no column differs
pub no_place : of_b (0 ∷ 1 ∷ 0 ∷ 1 ∷ 1 ∷ 0 ∷ 1 ∷ 0 ∷ []) ≡ none
unfolding computing of_b
no_place = refl
