-- A power of two, as a shift computes it.
-- Assumes nothing.
use Rattle.std.specs.Prelude.{◌≤◌, ◌^◌, ◌*◌, ◌%◌, ◌≡◌}
use Rattle.laws.specs.Prelude.{ℕ, ◌∙◌, ap, one-mul, lt_of_le_of_lt, mod-eq_of_lt, arith, pow_mono, pow-lt}
use Rattle.radix.specs.Widths.{most_members}

pub shifted : (i : ℕ) → i ≤ most_members → 1 * 2 ^ i % 2 ^ 64 ≡ 2 ^ i
shifted i h =
    let small : 2 ^ i ≤ 2 ^ most_members = pow_mono h in
    ap (λ (k : ℕ). k % 2 ^ 64) (one-mul (2 ^ i)) ∙ mod-eq_of_lt (lt_of_le_of_lt small (pow-lt {i = most_members} {j = 64} (omega arith)))
