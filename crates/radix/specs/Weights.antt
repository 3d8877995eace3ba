-- The weight of an input in an index: an index is the sum of its levels, each times its input's weight.
-- Assumes nothing.
use Rattle.std.specs.Prelude.{◌<◌, ◌≤◌, ◌-◌, ◌^◌, ◌*◌, ◌≡◌}
use Rattle.laws.specs.Prelude.{ℕ, subst, List, pow-suc, pow-le-pow_right, arith, get_or}

-- ws holds every input's weight
abbrev pub Weights : ℕ → ℕ → List ℕ → Type 0
Weights m n ws = (i : ℕ) → i < n → get_or ws i 0 ≡ m ^ (n - 1 - i)

-- a weight times m is at most the number of indices
pub weight_fits : (m n i : ℕ) → 0 < m → i < n → m ^ (n - 1 - i) * m ≤ m ^ n
weight_fits m n i pos h = subst (λ (k : ℕ). k ≤ m ^ n) (pow-suc m (n - 1 - i)) (pow-le-pow_right pos (omega arith))
