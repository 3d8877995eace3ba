-- Decimal values of one and of two digits, compared with a field's bytes.
-- Assumes nothing.
use Rattle.std.specs.Prelude.{◌<◌, ◌≤◌, ◌+◌, ◌%◌, ◌/◌, ◌≡◌, ◌∷◌, ◌++◌}
use Rattle.laws.specs.Prelude.{ℕ, ◌∙◌, ap, List, [], arith}
use Rattle.rules.specs.Text.{digit_byte, decimal, zero_byte}
use Rattle.laws.specs.Numbers.Decimals.{decimal_one as one_digit_lem, decimal_more}

pub field_decimal_one : (n : ℕ) → n < 10 → decimal n ≡ (zero_byte + n % 10) ∷ []
unfolding digit_byte
field_decimal_one n h = one_digit_lem n h ∙ ap {B = List ℕ} (λ d. (zero_byte + d) ∷ []) (omega arith)

pub decimal_two : (n : ℕ) → 10 ≤ n → n < 100 → decimal n ≡ (zero_byte + n / 10) ∷ (zero_byte + n % 10) ∷ []
unfolding digit_byte
decimal_two n h k = decimal_more n h ∙ ap (λ (t : List ℕ). t ++ ((zero_byte + n % 10) ∷ [])) (one_digit_lem (n / 10) (omega arith))
