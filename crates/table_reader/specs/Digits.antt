-- A field of one digit below m.
-- Assumes nothing.
use Rattle.std.specs.Prelude.{◌<◌, ◌≤◌, ◌+◌, ◌-◌, ◌≡◌, ◌∷◌}
use Rattle.laws.specs.Prelude.{ℕ, ◌∙◌, sym, ap, refl, and-eq-true_iff, and-false, List, [], arith, ltb, leb, length, get_or}
use Rattle.laws.specs.Prelude.{lt-ltb, le-ltb, le-leb, lt-leb, leb-true, ltb-true}
use Rattle.rules.specs.Text.{is_digit, zero_byte}
use Rattle.rules.specs.Sheets.Fields.{Judge, good, bad, judged}
use Rattle.fields.specs.Taken.{field_judged_good}
use Rattle.laws.specs.Lists.Places.{one_byte}

-- any other field is refused with `number`
unfoldable pub digit_below : ℕ → ℕ → Judge ℕ
digit_below m number [] = bad number
digit_below m number (b ∷ []) = judged (is_digit m b) (b - zero_byte) number
digit_below m number (b ∷ c ∷ w) = bad number

module _ (m number : ℕ) where
  pub digit_long : (w : List ℕ) → (length w ≡ 1 → ⊥) → bad number ≡ digit_below m number w
  unfolding digit_below
  digit_long [] h = refl
  digit_long (b ∷ []) h = absurd (h refl)
  digit_long (b ∷ d ∷ w) h = refl

  module _ (w : List ℕ) (e : length w ≡ 1) where
    pub digit_low : get_or w 0 0 < zero_byte → bad number ≡ digit_below m number w
    unfolding digit_below is_digit
    digit_low h = rw (one_byte w e) (simp (lt-leb zero_byte (get_or w 0 0) h))

    pub digit_high : zero_byte ≤ get_or w 0 0 → m ≤ get_or w 0 0 - zero_byte → bad number ≡ digit_below m number w
    unfolding digit_below is_digit
    digit_high h k = rw (one_byte w e) (simp (le-ltb (get_or w 0 0) (zero_byte + m) (omega arith), and-false))

    pub digit_good : zero_byte ≤ get_or w 0 0 → get_or w 0 0 - zero_byte < m → good (get_or w 0 0 - zero_byte) ≡ digit_below m number w
    unfolding digit_below is_digit
    digit_good h k = rw (one_byte w e) (simp (le-leb zero_byte (get_or w 0 0) h, lt-ltb (get_or w 0 0) (zero_byte + m) (omega arith)))

  -- the byte of the digit d
  pub digit_is : (d : ℕ) → d < m → digit_below m number ((zero_byte + d) ∷ []) ≡ good d
  digit_is d h = sym (digit_good ((zero_byte + d) ∷ []) refl (omega arith) (omega arith)) ∙ ap good (omega arith)

  -- a digit that was read
  pub digit_told : (w : List ℕ) (d : ℕ) → digit_below m number w ≡ good d → d < m
  unfolding digit_below is_digit
  digit_told [] d e = let z : ◌≡◌ {A = ℕ} 0 1 = cc in absurd (omega arith)
  digit_told (b ∷ []) d e =
      let told = field_judged_good (is_digit m b) (b - zero_byte) d number e in
      let (low, high) = (and-eq-true_iff (leb zero_byte b) (ltb b (zero_byte + m))).0 told.0 in
      omega (arith, leb-true zero_byte b low, ltb-true b (zero_byte + m) high, told.1)
  digit_told (b ∷ c ∷ w) d e = let z : ◌≡◌ {A = ℕ} 0 1 = cc in absurd (omega arith)
