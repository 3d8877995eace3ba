-- Document 02, K4: two assignments of a group compared. A table is given as `f`, the ink at each index.
-- Assumes nothing.
use Rattle.std.specs.Prelude.{ℕ, ◌+◌, Bool, not, List, length, get_or, eqb}
use Rattle.std.proofs.Math.Option.{Option}
use Rattle.rules.specs.Lists.{range, find}
use Rattle.rules.specs.Groups.Groups.{points, others}

-- "where the inks differ": at place k among the assignments ys of the other inputs
unfoldable pub differ_at : (ℕ → ℕ) → List ℕ → ℕ → ℕ → ℕ → Bool
differ_at f ys p q k = let y = get_or ys k 0 in not (eqb (f (p + y)) (f (q + y)))

-- "The comparison tells the first place .. where the inks differ, or that there is none."
unfoldable pub difference_over : (ℕ → ℕ) → List ℕ → ℕ → ℕ → Option ℕ
difference_over f ys p q = find (differ_at f ys p q) (range 0 (length ys))

-- .. "with the other inputs counted like a group"
unfoldable pub first_difference : ℕ → ℕ → (ℕ → ℕ) → ℕ → ℕ → ℕ → Option ℕ
first_difference m n f g p q = difference_over f (points m n (others n g)) p q

-- all of this file computes
unfoldable pub computing : Unit {0}
unfolding differ_at difference_over first_difference
computing = tt
