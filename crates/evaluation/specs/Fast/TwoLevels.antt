-- The digits of a gate of two levels.
-- Assumes nothing.
use Rattle.std.specs.Prelude.{◌<◌, ◌+◌, ◌*◌, ◌≡◌, ◌∷◌}
use Rattle.laws.specs.Prelude.{ℕ, suc, zero, ap, List, [], arith, get_or}

-- a gate's four digits, of two levels
pub four_digits : (digits : List ℕ) (from l r : ℕ) → l < 2 → r < 2
    → get_or (get_or digits from 0 ∷ get_or digits (from + 1) 0 ∷ get_or digits (from + 2) 0 ∷ get_or digits (from + 3) 0 ∷ []) (l * 2 + r) 0 ≡ get_or digits
    (from + l * 2 + r) 0
four_digits digits from zero zero h k = ap (λ (q : ℕ). get_or digits q 0) (omega arith)
four_digits digits from zero (suc zero) h k = ap (λ (q : ℕ). get_or digits q 0) (omega arith)
four_digits digits from (suc zero) zero h k = ap (λ (q : ℕ). get_or digits q 0) (omega arith)
four_digits digits from (suc zero) (suc zero) h k = ap (λ (q : ℕ). get_or digits q 0) (omega arith)
four_digits digits from zero (suc (suc r)) h k = absurd (omega arith)
four_digits digits from (suc zero) (suc (suc r)) h k = absurd (omega arith)
four_digits digits from (suc (suc l)) r h k = absurd (omega arith)
