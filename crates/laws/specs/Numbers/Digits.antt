-- The bytes of digits, and which bytes are a decimal value: at least one digit, digits alone, and no needless zero in front.
-- Assumes nothing.
use Rattle.std.specs.Prelude.{◌<◌, ◌≤◌, ◌+◌, ◌-◌, ◌^◌, ◌*◌, ◌%◌, ◌/◌, ◌≡◌, ◌↔◌, ◌∷◌, ◌++◌}
use Rattle.laws.specs.Prelude.{ℕ, suc, ◌∙◌, ap, refl, ap₂, true, false, List, []}
use Rattle.laws.specs.Prelude.{append-nil, dec_lt, arith, length, get_or, length-append, get_or-append, append_snoc}
use Rattle.rules.specs.Lists.{all}
use Rattle.rules.specs.Text.{digit_byte, is_digit, decimal, value_of, is_decimal}
use Rattle.laws.specs.Numbers.Decimals.{by_digits, decimal_one, decimal_more, decimal_length}
use Rattle.laws.specs.Lists.Same.{same_refl, same_true}
use Rattle.laws.specs.Lists.Tests.{both_leb, all_iff, all_append, not_true_false}

-- ---- the bytes of digits

-- those of the digits below m
pub digit_iff : (m b : ℕ) → (is_digit m b ≡ true) ↔ ((48 ≤ b) × (b < 48 + m))
unfolding is_digit
digit_iff m b = both_leb 48 b (suc b) (48 + m)

-- the byte of a level below m
pub digit_byte_lem : (m d : ℕ) → d < m → is_digit m (digit_byte d) ≡ true
unfolding digit_byte
digit_byte_lem m d h = (digit_iff m (48 + d)).1 (omega arith)

-- every byte of a decimal value is a digit's byte, and there is at least one
pub decimal_digits : (n : ℕ) → (all (is_digit 10) (decimal n) ≡ true) × (0 < length (decimal n))
unfolding all
decimal_digits n = by_digits (λ n w. (all (is_digit 10) w ≡ true) × (0 < length w)) (λ n h. (last n h, omega arith))
    (λ n w l e. (all_append (is_digit 10) w (digit_byte (n % 10) ∷ []) e.0 (last (n % 10) (omega arith)), rw length-append (omega arith))) n
  where
    last : (d : ℕ) → d < 10 → all (is_digit 10) (digit_byte d ∷ []) ≡ true
    last d h = (all_iff (is_digit 10) (digit_byte d) []).1 (digit_byte_lem 10 d h, refl)

-- .. and the first is not zero, unless the number is 0
pub decimal_first : (n : ℕ) → 0 < n → 48 < get_or (decimal n) 0 0
unfolding digit_byte
decimal_first n = (by_digits (λ n w. (0 < length w) × (0 < n → 48 < get_or w 0 0)) (λ n h. (omega arith, λ some. omega arith))
    (λ n w l e. (rw length-append (omega arith), λ some. rw (get_or-append w (digit_byte (n % 10) ∷ []) 0 0 e.0) (e.1 (omega arith)))) n).1

-- ---- the number that digits write

-- one more digit
value_snoc : (before : ℕ) (w : List ℕ) (b : ℕ) → value_of before (w ++ (b ∷ [])) ≡ value_of before w * 10 + (b - 48)
unfolding value_of
value_snoc before [] b = refl
value_snoc before (c ∷ w) b = value_snoc (before * 10 + (c - 48)) w b

-- a decimal value writes its number
pub decimal_value : (n : ℕ) → value_of 0 (decimal n) ≡ n
unfolding value_of digit_byte
decimal_value n = by_digits (λ n w. value_of 0 w ≡ n) (λ n h. omega arith) (λ n w l e. value_snoc 0 w (48 + n % 10) ∙ (omega arith)) n

-- digits after a nonzero number continue its decimal value
digits_behind : (before : ℕ) → 0 < before → (w : List ℕ) → all (is_digit 10) w ≡ true → decimal (value_of before w) ≡ decimal before ++ w
unfolding value_of digit_byte
digits_behind before some [] digits = simp append-nil
digits_behind before some (b ∷ w) digits =
    let (first, others) = (all_iff (is_digit 10) b w).0 digits in
    let (low, high) = (digit_iff 10 b).0 first in
    let more = before * 10 + (b - 48) in
    let tens : more / 10 ≡ before = omega arith in
    let ones : 48 + more % 10 ≡ b = omega arith in
    digits_behind more (omega arith) w others
    ∙ ap (λ (t : List ℕ). t ++ w) (decimal_more more (omega arith) ∙ ap₂ (λ (k c : ℕ). decimal k ++ (c ∷ [])) tens ones)
    ∙ append_snoc (decimal before) b w

-- ---- which bytes are a decimal value

-- the decimal value of a number is one
pub decimal_is : (n : ℕ) → is_decimal (decimal n) ≡ true
unfolding is_decimal
decimal_is n = rw (decimal_value n) (same_refl (decimal n))

-- and there are no others
pub is_decimal_lem : (w : List ℕ) → is_decimal w ≡ true → w ≡ decimal (value_of 0 w)
unfolding is_decimal
is_decimal_lem w e = same_true w (decimal (value_of 0 w)) e

-- digits without a needless zero are one
pub digits_decimal : (w : List ℕ) → 0 < length w → all (is_digit 10) w ≡ true → (1 < length w → 48 < get_or w 0 0) → is_decimal w ≡ true
unfolding is_decimal value_of digit_byte
digits_decimal [] some digits first = absurd (omega arith)
digits_decimal (b ∷ []) some digits first =
    let (low, high) = (digit_iff 10 b).0 ((all_iff (is_digit 10) b []).0 digits).0 in
    let byte : 48 + (0 * 10 + (b - 48)) ≡ b = omega arith in
    rw (decimal_one (0 * 10 + (b - 48)) (omega arith), byte) (same_refl (b ∷ []))
digits_decimal (b ∷ c ∷ w) some digits first =
    let (is, others) = (all_iff (is_digit 10) b (c ∷ w)).0 digits in
    let (low, high) = (digit_iff 10 b).0 is in
    let byte : 48 + (0 * 10 + (b - 48)) ≡ b = omega arith in
    rw (digits_behind (0 * 10 + (b - 48)) (omega (arith, first (omega arith))) (c ∷ w) others, decimal_one (0 * 10 + (b - 48)) (omega arith), byte)
    (same_refl (b ∷ c ∷ w))

module _ (w : List ℕ) where
  -- a text that equals no decimal value is not one
  not_one : ((n : ℕ) → w ≡ decimal n → ⊥) → is_decimal w ≡ false
  not_one h = not_true_false (is_decimal w) (λ e. h (value_of 0 w) (is_decimal_lem w e))

  pub empty_decimal : length w ≡ 0 → is_decimal w ≡ false
  empty_decimal none = not_one (λ n e. omega (arith, ap length e, (decimal_digits n).1))

  -- "No decimal value has a needless leading zero."
  pub zero_decimal : 1 < length w → get_or w 0 0 ≡ 48 → is_decimal w ≡ false
  zero_decimal long is_zero = not_one (λ n e. never n (dec_lt 0 n) e)
    where
      never : (n : ℕ) → Dec (0 < n) → w ≡ decimal n → ⊥
      never n (yes some) e = omega (arith, decimal_first n some, ap (λ (v : List ℕ). get_or v 0 0) e)
      never n (no none) e = omega (arith, ap length e, decimal_length 0 n (omega arith))

  -- a decimal value of a number below 10 to the power d + 1 has at most d + 1 bytes
  pub long_decimal : (d : ℕ) → suc d < length w → value_of 0 w < 10 ^ suc d → is_decimal w ≡ false
  long_decimal d long small =
      not_true_false (is_decimal w) (λ e. omega (arith, ap length (is_decimal_lem w e), decimal_length d (value_of 0 w) small))
