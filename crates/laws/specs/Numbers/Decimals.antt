-- Decimal values digit by digit, and how long they are.
-- Assumes nothing.
use Rattle.std.specs.Prelude.{◌<◌, ◌≤◌, ◌^◌, ◌%◌, ◌/◌, ◌≡◌, ◌∷◌, ◌++◌}
use Rattle.laws.specs.Prelude.{ℕ, suc, zero, ◌∙◌, sym, ap, List, [], pow-suc, dec_le, arith, length}
use Rattle.laws.specs.Prelude.{length-append, lt-ltb, le-ltb, by_cases}
use Rattle.rules.specs.Text.{digit_byte, decimal_f, decimal}

one_digit_lem : (fuel k : ℕ) → k < 10 → decimal_f fuel k ≡ digit_byte k ∷ []
unfolding decimal_f
one_digit_lem zero k h =
    let e : k % 10 ≡ k = omega arith in
    rw e
one_digit_lem (suc fuel) k h = rw (lt-ltb k 10 h, decimal_f)

more_digits : (fuel k : ℕ) → 10 ≤ k → decimal_f (suc fuel) k ≡ decimal_f fuel (k / 10) ++ (digit_byte (k % 10) ∷ [])
unfolding decimal_f
more_digits fuel k h = rw (le-ltb k 10 h, decimal_f)

-- any large enough fuel gives the same result
enough : (f g k : ℕ) → k ≤ f → k ≤ g → decimal_f f k ≡ decimal_f g k
enough zero g k hf hg = one_digit_lem zero k (omega arith) ∙ sym (one_digit_lem g k (omega arith))
enough (suc f) zero k hf hg = one_digit_lem (suc f) k (omega arith) ∙ sym (one_digit_lem zero k (omega arith))
enough (suc f) (suc g) k hf hg = by_cases (dec_le 10 k)
    (λ h. more_digits f k h ∙ ap (λ (w : List ℕ). w ++ (digit_byte (k % 10) ∷ [])) (enough f g (k / 10) (omega arith) (omega arith)) ∙ sym (more_digits g k h))
    (λ h. one_digit_lem (suc f) k (omega arith) ∙ sym (one_digit_lem (suc g) k (omega arith)))

pub decimal_one : (k : ℕ) → k < 10 → decimal k ≡ digit_byte k ∷ []
unfolding decimal
decimal_one k h = one_digit_lem k k h

pub decimal_more : (k : ℕ) → 10 ≤ k → decimal k ≡ decimal (k / 10) ++ (digit_byte (k % 10) ∷ [])
unfolding decimal
decimal_more zero h = absurd (omega arith)
decimal_more (suc k) h =
    more_digits k (suc k) h ∙ ap (λ (w : List ℕ). w ++ (digit_byte (suc k % 10) ∷ [])) (enough k (suc k / 10) (suc k / 10) (omega arith) (omega arith))

-- A decimal value is one digit, or the decimal value of k / 10 and one more digit.
module _ (P : ℕ → List ℕ → Type 0) (one : (k : ℕ) → k < 10 → P k (digit_byte k ∷ []))
    (more : (k : ℕ) (w : List ℕ) → 10 ≤ k → P (k / 10) w → P k (w ++ (digit_byte (k % 10) ∷ []))) where
  by_fuel : (fuel k : ℕ) → k ≤ fuel → P k (decimal k)
  by_fuel zero k h = rw (decimal_one k (omega arith)) (one k (omega arith))
  by_fuel (suc fuel) k h = by_cases (dec_le 10 k)
      (λ l. rw (decimal_more k l) (more k (decimal (k / 10)) l (by_fuel fuel (k / 10) (omega arith))))
      (λ l. rw (decimal_one k (omega arith)) (one k (omega arith)))

  pub by_digits : (k : ℕ) → P k (decimal k)
  by_digits k = by_fuel k k (omega arith)

-- a number below 10 to the power d + 1 has at most d + 1 digits
pub decimal_length : (d k : ℕ) → k < 10 ^ suc d → length (decimal k) ≤ suc d
decimal_length zero k h = rw (decimal_one k (omega (arith, pow-suc 10 0))) (omega arith)
decimal_length (suc d) k h = by_cases (dec_le 10 k)
    (λ l. rw (decimal_more k l, length-append) (omega (arith, decimal_length d (k / 10) (omega (arith, pow-suc 10 (suc d))))))
    (λ l. rw (decimal_one k (omega arith)) (omega arith))
