-- Whole numbers of quarters as doubles. Below 2 to the power 53 each is exact, so sums and order of doubles are those of the whole numbers.
-- Assumes nothing.
use Rattle.laws.specs.Prelude.{ℕ, max, ◌∙◌, sym, ap, refl, subst, ap₂, true, false, true≢false, cond, mul-le-mul_right}
use Rattle.laws.specs.Prelude.{lt_of_lt_of_le, mul_comm, mul_assoc, add-mul, lt_of_le_of_lt, le_of_lt, mul-pos, max-eq_left, max-eq_right}
use Rattle.laws.specs.Prelude.{mul_right_comm, eq_of_mul-eq-mul_right, le-max_left, le-max_right, le_of_mul-le-mul_right, lt_of_mul-lt-mul_right}
use Rattle.laws.specs.Prelude.{mul-lt-mul_of_pos_right, dec_lt, arith, ltb, lit<, lit≤, lt-ltb, le-ltb, pow_mono, shl_lt, by_cases}
use Rattle.rules.specs.Nets.Arrivals.{quarter}
use Rattle.std.specs.Prelude.{pos, negsuc, Float, ◌<◌, ◌≤◌, ◌+◌, ◌^◌, ◌*◌, ◌≡◌}
use Rattle.std.specs.Float.{fin}
use Rattle.std.specs.Float.Ieee.{binary64, up, down, round, add, sum, mul, lt, of_int, of_bits}
use Rattle.std.specs.Float.Ieee.Exact.{HasValue, round_exact}
use Rattle.std.specs.Float.Ieee.Fits.{down_pos}
use Rattle.std.specs.Float.Ieee.Scale.{round_same}
use Rattle.std.specs.Float.Ieee.Back.{round_whole}

-- numbers below this are exact
abbrev pub exact_below : ℕ
exact_below = 2 ^ 53

-- "as floats, and it is exact": the value is a quarter of the number, with no sign
pub quarter_exact : (q : ℕ) → q < exact_below → HasValue (quarter q) false q 4
unfolding quarter
quarter_exact q h =
    round_exact binary64 false q 4 q 1072 (lit< tt) h (lt_of_lt_of_le (shl_lt 53 1072 h) (pow_mono {i = 1125} {j = 2098} (lit≤ tt)))
    (sym (mul_assoc q (2 ^ 1072) 4))

-- ---- sums

module _ (c : ℕ) (some : 0 < c) where
  sum_scaled : (m u e d a b n v : ℕ) → m * u * c ≡ a * e → n * v * c ≡ b * d → (m * u * d + n * v * e) * c ≡ (a + b) * (e * d)
  sum_scaled m u e d a b n v p q =
      add-mul (m * u * d) (n * v * e) c
      ∙ ap₂ ◌+◌ (mul_right_comm (m * u) d c ∙ ap (λ (x : ℕ). x * d) p ∙ mul_assoc a e d)
      (mul_right_comm (n * v) e c ∙ ap (λ (x : ℕ). x * e) q ∙ mul_assoc b d e ∙ ap (λ (x : ℕ). b * x) (mul_comm d e))
      ∙ sym (add-mul a b (e * d))

  pub sum_exact : (x y : Float) (a b : ℕ) → HasValue x false a c → HasValue y false b c → add binary64 x y ≡ round binary64 false (a + b) c
  unfolding add sum
  sum_exact lib.Ieee.nan y a b v w = elim v [ ]
  sum_exact (lib.Ieee.inf s) y a b v w = elim v [ ]
  sum_exact (fin false m e) lib.Ieee.nan a b v w = elim w [ ]
  sum_exact (fin false m e) (lib.Ieee.inf s) a b v w = elim w [ ]
  sum_exact (fin true m e) y a b v w = absurd (true≢false v.0)
  sum_exact (fin false m e) (fin true n d) a b v w = absurd (true≢false w.0)
  sum_exact (fin false m e) (fin false n d) a b v w =
      round_same binary64 false (m * up e * down d + n * up d * down e) (down e * down d) (a + b) c (mul-pos (down_pos e) (down_pos d)) some
      (sum_scaled m (up e) (down e) (down d) a b n (up d) v.1 w.1)

pub quarter_sum : (p q : ℕ) → p < exact_below → q < exact_below → add binary64 (quarter p) (quarter q) ≡ quarter (p + q)
unfolding quarter
quarter_sum p q hp hq = sum_exact 4 (lit< tt) (quarter p) (quarter q) p q (quarter_exact p hp) (quarter_exact q hq)

-- ---- order

cross : (x y a b c k : ℕ) → 0 < c → 0 < k → x * c ≡ a * k → y * c ≡ b * k → ltb x y ≡ ltb a b
cross x y a b c k C K p q = elim (dec_lt a b) [
  | yes h ↦
      let less : x * c < y * c = rw (p, q) (mul-lt-mul_of_pos_right h K) in
      lt-ltb x y (lt_of_mul-lt-mul_right c less) ∙ sym (lt-ltb a b h)
  | no h ↦
      let most : y * c ≤ x * c = rw (p, q) (mul-le-mul_right k (omega arith)) in
      le-ltb x y (le_of_mul-le-mul_right most C) ∙ sym (le-ltb a b (omega arith))
]

pub order_exact : (c : ℕ) → 0 < c → (x y : Float) (a b : ℕ) → HasValue x false a c → HasValue y false b c → lt x y ≡ ltb a b
unfolding lt
order_exact c some lib.Ieee.nan y a b v w = elim v [ ]
order_exact c some (lib.Ieee.inf s) y a b v w = elim v [ ]
order_exact c some (fin false m e) lib.Ieee.nan a b v w = elim w [ ]
order_exact c some (fin false m e) (lib.Ieee.inf s) a b v w = elim w [ ]
order_exact c some (fin true m e) y a b v w = absurd (true≢false v.0)
order_exact c some (fin false m e) (fin true n d) a b v w = absurd (true≢false w.0)
order_exact c some (fin false m e) (fin false n d) a b v w =
    cross (m * up e * down d) (n * up d * down e) a b c (down e * down d) some (mul-pos (down_pos e) (down_pos d))
    (mul_right_comm (m * up e) (down d) c ∙ ap (λ (x : ℕ). x * down d) v.1 ∙ mul_assoc a (down e) (down d))
    (mul_right_comm (n * up d) (down e) c ∙ ap (λ (x : ℕ). x * down e) w.1 ∙ mul_assoc b (down d) (down e)
    ∙ ap (λ (x : ℕ). b * x) (mul_comm (down d) (down e)))

pub quarter_order : (p q : ℕ) → p < exact_below → q < exact_below → lt (quarter p) (quarter q) ≡ ltb p q
quarter_order p q hp hq = order_exact 4 (lit< tt) (quarter p) (quarter q) p q (quarter_exact p hp) (quarter_exact q hq)

-- different numbers of quarters are different doubles
pub quarter_injective : (p q : ℕ) → p < exact_below → q < exact_below → quarter p ≡ quarter q → p ≡ q
quarter_injective p q hp hq e = one_value (quarter p) p q (quarter_exact p hp) (subst (λ (x : Float). HasValue x false q 4) (sym e) (quarter_exact q hq))
  where
    one_value : (x : Float) (a b : ℕ) → HasValue x false a 4 → HasValue x false b 4 → a ≡ b
    one_value lib.Ieee.nan a b v w = elim v [ ]
    one_value (lib.Ieee.inf s) a b v w = elim v [ ]
    one_value (fin s m k) a b v w = eq_of_mul-eq-mul_right (down k) (down_pos k) a b (sym v.1 ∙ w.1)

-- ---- a whole number's quarter

-- a whole number as a double, times 0.25
pub quarter_of : (n : ℕ) → n ≤ exact_below → mul binary64 (of_int binary64 (pos n)) (of_bits binary64 0x3fd0_0000_0000_0000) ≡ quarter n
unfolding quarter of_int of_bits mul
quarter_of n h = times (round binary64 false n 1) (round_whole binary64 false n h)
  where
    times : (x : Float) → HasValue x false n 1 → mul binary64 x (fin false 1 (negsuc 1)) ≡ round binary64 false n 4
    times lib.Ieee.nan v = elim v [ ]
    times (lib.Ieee.inf s) v = elim v [ ]
    times (fin true m e) v = absurd (true≢false v.0)
    times (fin false m e) v =
        round_same binary64 false (m * up e * 1) (down e * 4) n 4 (mul-pos (down_pos e) (lit< tt)) (lit< tt)
        (ap (λ (x : ℕ). x * 4) v.1 ∙ mul_assoc n (down e) 4)

-- ---- the later of two

unfoldable pub later_of : Float → Float → Float
later_of x y = cond (lt x y) y x

pub quarter_later : (p q : ℕ) → p < exact_below → q < exact_below → later_of (quarter p) (quarter q) ≡ quarter (max p q)
unfolding later_of
quarter_later p q hp hq = rw (quarter_order p q hp hq) (by_cases (dec_lt p q)
    (λ h. rw (lt-ltb p q h, max-eq_right (le_of_lt h)) refl)
    (λ h. let most : q ≤ p = omega arith in rw (le-ltb p q most, max-eq_left most) refl))

-- .. plus one delay
pub quarter_joined : (p q d : ℕ) → max p q < exact_below → d < exact_below → add binary64 (later_of (quarter p) (quarter q)) (quarter d) ≡ quarter (max p q + d)
quarter_joined p q d h k =
    ap (λ (x : Float). add binary64 x (quarter d)) (quarter_later p q (lt_of_le_of_lt (le-max_left p q) h) (lt_of_le_of_lt (le-max_right p q) h))
    ∙ quarter_sum (max p q) d h k
