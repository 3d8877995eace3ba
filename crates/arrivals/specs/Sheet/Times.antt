-- A time, by its length, its first byte and its digits.
-- Assumes nothing.
use Rattle.std.specs.Prelude.{◌<◌, ◌≤◌, ◌+◌, ◌-◌, ◌^◌, ◌*◌, ◌≡◌, ◌&&◌, ◌||◌}
use Rattle.laws.specs.Prelude.{ℕ, ◌∙◌, sym, ap, refl, true, false, Bool, not, true≢false, and-eq-true_iff}
use Rattle.laws.specs.Prelude.{and-false, List, pow-suc, pow-le-pow_right, lt_of_lt_of_le, add-one, dec_lt, arith, eqb, leb, length, get_or, drop}
use Rattle.laws.specs.Prelude.{drop_of_length-le, eqb-true, eqb-false, not-true, le-leb, lt-leb, leb-true, leb-false}
use Rattle.std.proofs.Math.Option.{Option, none, some}
use Rattle.std.specs.Char.{is_ascii_digit}
use Rattle.std.proofs.Math.Dec.{leb-suc-suc}
use Rattle.rules.specs.Lists.{all}
use Rattle.rules.specs.Text.{is_digit, value_of, is_decimal, zero_byte}
use Rattle.rules.specs.Limits.{most_time}
use Rattle.rules.specs.Sheets.Fields.{good, bad}
use Rattle.rules.specs.Sheets.ArrivalSheet.{time_field}
use Rattle.laws.specs.Lists.Places.{mem_get_or}
use Rattle.laws.specs.Lists.Tests.{all_mem, not_true_false}
use Rattle.laws.specs.Lists.Walks.{rest, all_next, all_stop}
use Rattle.laws.specs.Numbers.Digits.{digit_iff, decimal_digits, is_decimal_lem, digits_decimal, empty_decimal, zero_decimal, long_decimal}

-- the digits of the largest time
abbrev pub most_bytes : ℕ
most_bytes = 5

-- an allowed length for a time, and no needless leading zero
unfoldable pub leads : List ℕ → Bool
leads w = not (eqb (length w) 0) && leb (length w) most_bytes && (eqb (length w) 1 || not (eqb (get_or w 0 0) zero_byte))

-- the number that digits write
unfoldable pub digits_value : List ℕ → Option ℕ
digits_value w = elim (all (is_digit 10) w) [ true ↦ some (value_of 0 w) | false ↦ none ]

-- such a field is short
pub leads_short : (w : List ℕ) → leads w ≡ true → length w ≤ most_bytes
unfolding leads
leads_short w led =
    let (front, _) = (and-eq-true_iff (not (eqb (length w) 0) && leb (length w) most_bytes) (eqb (length w) 1 || not (eqb (get_or w 0 0) zero_byte))).0 led in
    leb-true (length w) most_bytes ((and-eq-true_iff (not (eqb (length w) 0)) (leb (length w) most_bytes)).0 front).1

-- ---- fields that are not times

no_digits : (w : List ℕ) → all (is_digit 10) w ≡ false → is_decimal w ≡ false
no_digits w other =
    not_true_false (is_decimal w) (λ e. true≢false (sym (decimal_digits (value_of 0 w)).0 ∙ ap (all (is_digit 10)) (sym (is_decimal_lem w e)) ∙ other))

module _ (least : ℕ) (w : List ℕ) where
  not_time : (is_decimal w && leb (value_of 0 w) most_time) ≡ false → bad 19 ≡ time_field least w
  unfolding time_field
  not_time e = rw e refl

  no_decimal : is_decimal w ≡ false → bad 19 ≡ time_field least w
  no_decimal e = not_time (rw e refl)

  too_long : most_bytes < length w → bad 19 ≡ time_field least w
  too_long long = go (dec_lt most_time (value_of 0 w))
    where
      go : Dec (most_time < value_of 0 w) → bad 19 ≡ time_field least w
      go (yes over) = not_time (rw (lt-leb (value_of 0 w) most_time over) (and-false (is_decimal w)))
      go (no small) = no_decimal (long_decimal w 4 long (omega arith))

  pub time_lead : leads w ≡ false → bad 19 ≡ time_field least w
  unfolding leads
  time_lead e = go (eqb (length w) 0) refl (leb (length w) most_bytes) refl (eqb (length w) 1) refl (eqb (get_or w 0 0) zero_byte) refl
    where
      go : (a : Bool) → eqb (length w) 0 ≡ a → (b : Bool) → leb (length w) most_bytes ≡ b → (d : Bool) → eqb (length w) 1 ≡ d
          → (f : Bool) → eqb (get_or w 0 0) zero_byte ≡ f → bad 19 ≡ time_field least w
      go true x b y d z f q = no_decimal (empty_decimal w (eqb-true (length w) 0 x))
      go false x false y d z f q = too_long (leb-false (length w) most_bytes y)
      go false x true y true z f q = absurd (true≢false (rw (x, y, z) at e))
      go false x true y false z true q =
          let some = eqb-false (length w) 0 x in
          let several = eqb-false (length w) 1 z in
          no_decimal (zero_decimal w (omega arith) (eqb-true (get_or w 0 0) zero_byte q))
      go false x true y false z false q = absurd (true≢false (rw (x, y, z, q) at e))

  pub time_digits : (found : Option ℕ) → found ≡ digits_value w → found ≡ none → bad 19 ≡ time_field least w
  unfolding digits_value
  time_digits found is e = go (all (is_digit 10) w) refl (sym is ∙ e)
    where
      go : (t : Bool) → all (is_digit 10) w ≡ t → ◌≡◌ {A = Option ℕ} (elim t [ true ↦ some (value_of 0 w) | false ↦ none ]) none → bad 19 ≡ time_field least w
      go true d q = let z : ◌≡◌ {A = ℕ} 0 1 = cc in absurd (omega arith)
      go false d q = no_decimal (no_digits w d)

  -- ---- fields that are times

  module _ (led : leads w ≡ true) (value : ℕ) (found : Option ℕ) (is : found ≡ digits_value w) (e : found ≡ some value) where
    digits_all : (all (is_digit 10) w ≡ true) × (value_of 0 w ≡ value)
    unfolding digits_value
    digits_all = go (all (is_digit 10) w) refl (sym is ∙ e)
      where
        go : (t : Bool) → all (is_digit 10) w ≡ t → ◌≡◌ {A = Option ℕ} (elim t [ true ↦ some (value_of 0 w) | false ↦ none ]) (some value)
            → (all (is_digit 10) w ≡ true) × (value_of 0 w ≡ value)
        go true d q = (d, cc)
        go false d q = let z : ◌≡◌ {A = ℕ} 0 1 = cc in absurd (omega arith)

    begins : (length w ≡ 0 → ⊥) × (length w ≤ most_bytes) × (1 < length w → 48 < get_or w 0 0)
    unfolding leads
    begins =
        let (front, lone) = (and-eq-true_iff (not (eqb (length w) 0) && leb (length w) most_bytes) (eqb (length w) 1 || not (eqb (get_or w 0 0) zero_byte))).0 led in
        let (filled, short) = (and-eq-true_iff (not (eqb (length w) 0)) (leb (length w) most_bytes)).0 front in
        (eqb-false (length w) 0 (not-true (eqb (length w) 0) filled), leb-true (length w) most_bytes short, first (eqb (length w) 1) refl lone)
      where
        first : (t : Bool) → eqb (length w) 1 ≡ t → (t || not (eqb (get_or w 0 0) zero_byte)) ≡ true → 1 < length w → 48 < get_or w 0 0
        first true q lone several = absurd (let one = eqb-true (length w) 1 q in omega arith)
        first false q lone several =
            let other = eqb-false (get_or w 0 0) zero_byte (not-true (eqb (get_or w 0 0) zero_byte) lone) in
            let (low, high) = (digit_iff 10 (get_or w 0 0)).0 (all_mem (is_digit 10) (mem_get_or w 0 0 (omega arith)) digits_all.0) in
            omega arith

    decimal : is_decimal w ≡ true
    decimal = digits_decimal w (let some = begins.0 in omega arith) digits_all.0 begins.2

    pub time_over : most_time < value → bad 19 ≡ time_field least w
    time_over over = not_time (rw (digits_all.1, lt-leb value most_time over) (and-false (is_decimal w)))

    pub time_low : value < least → bad 19 ≡ time_field least w
    unfolding time_field
    time_low low = rw (digits_all.1, lt-leb least value low, and-false (is_decimal w && leb value most_time)) refl

    pub time_good : value ≤ most_time → least ≤ value → good value ≡ time_field least w
    unfolding time_field
    time_good h k = rw (digits_all.1, decimal, le-leb value most_time h, le-leb least value k) refl

-- ---- the digits one by one

-- the digits of ASCII are those of the sheets
pub ascii_digit : (b : ℕ) → is_ascii_digit b ≡ is_digit 10 b
unfolding is_digit
ascii_digit b = ap (λ (t : Bool). leb 48 b && t) (sym (leb-suc-suc b 57))

-- the first i bytes are digits, and write `value`
pub record ArrivalCounted (w : List ℕ) (value i : ℕ) : Type 0 where
  pub values : value_of value (drop i w) ≡ value_of 0 w
  pub digits : all (is_digit 10) (drop i w) ≡ all (is_digit 10) w
  pub small : value < 10 ^ i

pub count_start : (w : List ℕ) → ArrivalCounted w 0 0
count_start w = record { values = refl; digits = refl; small = omega arith }

module _ (w : List ℕ) (value i : ℕ) (counted : ArrivalCounted w value i) where
  pub count_room : i < most_bytes → value < 10_000
  count_room h = lt_of_lt_of_le counted.small (pow-le-pow_right {n = 10} (omega arith) (let few : i ≤ 4 = omega arith in few))

  pub count_end : length w ≤ i → some value ≡ digits_value w
  unfolding digits_value value_of all
  count_end h =
      let none_left = drop_of_length-le w h in
      let passed : all (is_digit 10) w ≡ true = sym counted.digits ∙ ap (all (is_digit 10)) none_left in
      rw (passed, digits_value) (ap some (ap (value_of value) (sym none_left) ∙ counted.values))

  module _ (h : i < length w) where
    pub count_stop : is_digit 10 (get_or w i 0) ≡ false → none ≡ digits_value w
    unfolding digits_value
    count_stop other =
        let failed : all (is_digit 10) w ≡ false = sym counted.digits ∙ all_stop (is_digit 10) w i h other in
        rw (failed, digits_value) refl

    pub count_next : is_digit 10 (get_or w i 0) ≡ true → ArrivalCounted w (value * 10 + (get_or w i 0 - 48)) (i + 1)
    unfolding value_of
    count_next is =
        let (low, high) = (digit_iff 10 (get_or w i 0)).0 is in
        record {
          values = sym (ap (value_of value) (rest w i h)) ∙ counted.values;
          digits = all_next (is_digit 10) w i h is ∙ counted.digits;
          small = rw (add-one, pow-suc) (omega (arith, counted.small));
        }
