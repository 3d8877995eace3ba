-- The judges of single fields, each with the words that it accepts: levels, inputs, names, a gate's digits, a row's levels and its ink.
-- Assumes nothing.
use Rattle.std.specs.Prelude.{◌<◌, ◌≤◌, ◌+◌, ◌-◌, ◌*◌, ◌≡◌, ◌&&◌, ◌||◌, ◌∷◌}
use Rattle.laws.specs.Prelude.{ℕ, ◌∙◌, sym, ap, refl, ap₂, true, false, Bool, not, and-eq-true_iff, false≢true}
use Rattle.laws.specs.Prelude.{List, [], map, mul-pos, ℕ_discrete, arith, eqb, leb, length, get_or, length-map, get_or-map, eq-eqb, eqb-true, not-true}
use Rattle.laws.specs.Prelude.{leb-true, by_cases}
use Rattle.rules.specs.Limits.{levels_fit, inputs_fit, cells_fit_of, fewest_inputs, most_inputs}
use Rattle.rules.specs.Lists.{range, all, any, same, find}
use Rattle.rules.specs.Sheets.Fields.{Judged, good, bad, Judge, judged, is_separator}
use Rattle.rules.specs.Sheets.SheetRules.{GateTable}
use Rattle.rules.specs.Sheets.Sheets.{levels_field, inputs_of, inputs_field, is_letter, letter_first, is_name, name_field, digits_field, level_field, ink_field}
use Rattle.rules.specs.Sheets.Sheets.{ink_byte}
use Rattle.rules.specs.Text.{space, newline, text, digit_byte, open_byte, is_digit, decimal}
use Rattle.std.proofs.Math.Option.{Option, none, some}
use Rattle.rules.specs.Sheets.LooseSheet.{any_level}
use Rattle.laws.specs.Numbers.Sizes.{levels_fit_lem, inputs_fit_lem}
use Rattle.laws.specs.Lists.Tests.{both_leb, all_iff, all_mem, all_each}
use Rattle.laws.specs.Lists.Same.{same_refl, same_true}
use Rattle.laws.specs.Lists.Places.{mem_get_or}
use Rattle.laws.specs.Lists.Finds.{found_is, found_only, first_in_range}
use Rattle.readback.specs.Readers.Fields.{plain, is_word, Judges, not_good, judged_good}
use Rattle.laws.specs.Numbers.Decimals.{decimal_one}
use Rattle.laws.specs.Numbers.Digits.{digit_iff, digit_byte_lem}
use Rattle.laws.specs.Nets.Inks.{open_byte_lem, level_byte, field_open, field_digit}
use Rattle.readback.specs.Readers.Decimals.{high_plain, high_word, digits_word, decimal_word, decimal_injective}

-- the digit of a digit's byte
byte_digit : (d : ℕ) → digit_byte d - 48 ≡ d
unfolding digit_byte
byte_digit d = omega arith

-- if a byte is a digit's, the digit is below m, and the byte is that digit's
digit_back : (m b : ℕ) → is_digit m b ≡ true → (b - 48 < m) × (b ≡ digit_byte (b - 48))
unfolding digit_byte
digit_back m b e =
    let (h, k) = (digit_iff m b).0 e in
    omega arith

-- ---- levels and inputs

-- a good levels field
levels_only : (w : List ℕ) (a : ℕ) → levels_field w ≡ good a → (x : (m : ℕ) × (levels_fit m ≡ true)) × (a ≡ x.0) × (w ≡ decimal x.0)
unfolding levels_field
levels_only [] a e = absurd (not_good 2 a e)
levels_only (b ∷ c ∷ w) a e = absurd (not_good 2 a e)
levels_only (b ∷ []) a e =
    let (t, q) = judged_good (is_digit 10 b && levels_fit (b - 48)) (b - 48) 2 a e in
    let (d, h) = (and-eq-true_iff (is_digit 10 b) (levels_fit (b - 48))).0 t in
    let (k, p) = digit_back 10 b d in
    ((b - 48, h), q, ap (λ c. c ∷ []) p ∙ sym (decimal_one (b - 48) k))

-- the levels field: the decimal values from 2 to 9
pub judges_levels : Judges levels_field ((m : ℕ) × (levels_fit m ≡ true)) (λ x. x.0) (λ x. decimal x.0)
unfolding levels_field
judges_levels = record { passes = λ x. passes x.0 x.1; word = λ x. decimal_word x.0; only = levels_only }
  where
    passes : (m : ℕ) → levels_fit m ≡ true → levels_field (decimal m) ≡ good m
    passes m h =
        let (_, k) = (levels_fit_lem m).0 h in
        rw (decimal_one m (omega arith), byte_digit m, digit_byte_lem 10 m (omega arith), h) refl

-- A judge that looks for the number in a range whose print is the field, and then tests the number.
module _ (print : ℕ → List ℕ) (from count : ℕ) (test : ℕ → Bool) (u v : ℕ) where
  -- the verdict on what is found
  unfoldable pub verdict : Option ℕ → Judged ℕ
  verdict none = bad u
  verdict (some n) = judged (test n) n v

  unfoldable pub looking : Judge ℕ
  looking w = verdict (find (λ n. same w (print n)) (range from count))

  -- the print of a number that passes is good, if different numbers have different prints
  pub looking_passes : ((m n : ℕ) → print m ≡ print n → m ≡ n)
      → (n : ℕ) → from ≤ n → n < from + count → test n ≡ true → looking (print n) ≡ good n
  unfolding looking verdict
  looking_passes different n h k t =
      let is = found_only (first_in_range (λ m. same (print n) (print m)) from count) n (h, k, same_refl (print n))
      (λ m (_, _, e). different m n (sym (same_true (print n) (print m) e))) in
      rw (is, t) refl

  -- a good field is the print of a number that passes
  pub looking_only : (w : List ℕ) (n : ℕ) → looking w ≡ good n → (from ≤ n) × (n < from + count) × (test n ≡ true) × (w ≡ print n)
  unfolding looking verdict
  looking_only w n e = go (find (λ n. same w (print n)) (range from count)) refl e
    where
      go : (o : Option ℕ) → find (λ n. same w (print n)) (range from count) ≡ o → verdict o ≡ good n
          → (from ≤ n) × (n < from + count) × (test n ≡ true) × (w ≡ print n)
      go none d e = absurd (not_good u n e)
      go (some m) d e =
          let (t, q) = judged_good (test m) m v n e in
          let (h, k, i) = found_is (first_in_range (λ n. same w (print n)) from count) m d in
          rw q (h, k, t, same_true w (print m) i)

-- the inputs field: the decimal values that keep inputs and cells within their bounds
pub judges_inputs : (m : ℕ) → Judges (inputs_field m) ((n : ℕ) × (inputs_fit n ≡ true) × (cells_fit_of m n ≡ true)) (λ x. x.0) (λ x. decimal x.0)
unfolding inputs_field inputs_of looking verdict
judges_inputs m = record { passes = λ x. passes x.0 x.1 x.2; word = λ x. decimal_word x.0; only = only }
  where
    passes : (n : ℕ) → inputs_fit n ≡ true → cells_fit_of m n ≡ true → inputs_field m (decimal n) ≡ good n
    passes n h k =
        let (i, j) = (inputs_fit_lem n).0 h in
        looking_passes decimal fewest_inputs (most_inputs + 1 - fewest_inputs) (cells_fit_of m) 3 3 decimal_injective n i (omega arith) k

    only : (w : List ℕ) (a : ℕ) → inputs_field m w ≡ good a
        → (x : (n : ℕ) × (inputs_fit n ≡ true) × (cells_fit_of m n ≡ true)) × (a ≡ x.0) × (w ≡ decimal x.0)
    only w a e =
        let (h, k, t, q) = looking_only decimal fewest_inputs (most_inputs + 1 - fewest_inputs) (cells_fit_of m) 3 3 w a e in
        ((a, (inputs_fit_lem a).1 (omega arith), t), refl, q)

-- ---- names

-- a byte of a name
abbrev name_byte : ℕ → Bool
name_byte b = is_letter b || is_digit 10 b

-- a name has at most 8 bytes, a letter first, and bytes of names only
pub name_parts : (w : List ℕ) → is_name w ≡ true → (length w ≤ 8) × (letter_first w ≡ true) × (all name_byte w ≡ true)
unfolding is_name
name_parts w e =
    let (f, _) = (and-eq-true_iff (leb (length w) 8 && letter_first w && all name_byte w) (not (same w (text "ink")))).0 e in
    let (g, c) = (and-eq-true_iff (leb (length w) 8 && letter_first w) (all name_byte w)).0 f in
    let (a, b) = (and-eq-true_iff (leb (length w) 8) (letter_first w)).0 g in
    (leb-true (length w) 8 a, b, c)

-- letters come after all digits
pub letter_high : (b : ℕ) → is_letter b ≡ true → 97 ≤ b
unfolding is_letter
letter_high b e = ((both_leb 97 b b 122).0 e).0

-- a byte of a name is at least the byte of 0
name_byte_high : (b : ℕ) → name_byte b ≡ true → 48 ≤ b
name_byte_high b e = go (is_letter b) refl e
  where
    go : (t : Bool) → is_letter b ≡ t → (t || is_digit 10 b) ≡ true → 48 ≤ b
    go true d e = omega (arith, letter_high b d)
    go false d e = ((digit_iff 10 b).0 e).0

-- a text that starts with a letter is not empty
letter_there : (w : List ℕ) → letter_first w ≡ true → 0 < length w
unfolding letter_first
letter_there [] e = absurd (false≢true e)
letter_there (b ∷ w) e = omega arith

-- a name is a word
pub name_word : (w : List ℕ) → is_name w ≡ true → is_word w ≡ true
name_word w e =
    let (_, h, k) = name_parts w e in
    high_word name_byte name_byte_high w k (letter_there w h)

-- a name field: a name that is not among the earlier ones
pub judges_name : (earlier : List (List ℕ))
    → Judges (name_field earlier) ((w : List ℕ) × ((is_name w ≡ true) × (any (same w) earlier ≡ false))) (λ x. x.0) (λ x. x.0)
unfolding name_field
judges_name earlier = record {
  passes = λ (w, (h, k)). rw (h, k) refl;
  word = λ (w, (h, k)). name_word w h;
  only = λ w a e.
      let (t, q) = judged_good (is_name w && not (any (same w) earlier)) w 4 a e in
      let (h, k) = (and-eq-true_iff (is_name w) (not (any (same w) earlier))).0 t in
      ((w, (h, not-true (any (same w) earlier) k)), q, refl);
}

-- ---- digits

-- the digits of digits' bytes
bytes_digits : (ds : List ℕ) → map (λ b. b - 48) (map digit_byte ds) ≡ ds
bytes_digits [] = refl
bytes_digits (d ∷ ds) = ap₂ ◌∷◌ (byte_digit d) (bytes_digits ds)

-- the bytes of bytes' digits
digits_bytes : (m : ℕ) (w : List ℕ) → all (is_digit m) w ≡ true → w ≡ map digit_byte (map (λ b. b - 48) w)
digits_bytes m [] e = refl
digits_bytes m (b ∷ w) e =
    let (h, k) = (all_iff (is_digit m) b w).0 e in
    ap₂ ◌∷◌ (digit_back m b h).1 (digits_bytes m w k)

-- the bytes of a gate's digits are digits below m
digits_pass : (m : ℕ) (ds : List ℕ) → GateTable m ds → all (is_digit m) (map digit_byte ds) ≡ true
digits_pass m ds g = all_each (is_digit m) (digit_byte 0) (map digit_byte ds)
    (λ k h. rw (get_or-map digit_byte ds k 0) (digit_byte_lem m (get_or ds k 0) (g.below k (rw (length-map ds digit_byte) at h))))

-- m·m digits below m are a gate's table
digits_table : (m : ℕ) (w : List ℕ) → length w ≡ m * m → all (is_digit m) w ≡ true → GateTable m (map (λ b. b - 48) w)
digits_table m w e h = record {
  count = length-map w (λ b. b - 48) ∙ e;
  below = λ k l. rw (get_or-map (λ b. b - 48) w k 48)
      (digit_back m (get_or w k 48) (all_mem (is_digit m) (mem_get_or w k 48 (rw (length-map w (λ b. b - 48)) at l)) h)).0;
}

-- a gate's table field: the tables' digits
pub judges_digits : (m : ℕ) → 0 < m → Judges (digits_field m) ((ds : List ℕ) × GateTable m ds) (λ x. x.0) (λ x. map digit_byte x.0)
unfolding digits_field
judges_digits m p = record {
  passes = λ x. rw (length-map x.0 digit_byte, eq-eqb (length x.0) (m * m) x.1.count, digits_pass m x.0 x.1, bytes_digits x.0) refl;
  word = λ x. digits_word m (map digit_byte x.0) (digits_pass m x.0 x.1) (rw (length-map x.0 digit_byte, x.1.count) (mul-pos p p));
  only = λ w a e.
      let (t, q) = judged_good (eqb (length w) (m * m) && all (is_digit m) w) (map (λ b. b - 48) w) 6 a e in
      let (h, k) = (and-eq-true_iff (eqb (length w) (m * m)) (all (is_digit m) w)).0 t in
      ((map (λ b. b - 48) w, digits_table m w (eqb-true (length w) (m * m) h) k), q, digits_bytes m w k);
}

-- ---- a row's levels and its ink

-- one digit is a word
pub digit_word : (d : ℕ) → is_word (digit_byte d ∷ []) ≡ true
unfolding is_word all digit_byte
digit_word d = rw (high_plain (48 + d) (omega arith), all) refl

-- a row's level field: the level that is due
pub judges_level : (l : ℕ) → Judges (level_field l) (Unit {0}) (λ _. tt) (λ _. digit_byte l ∷ [])
unfolding level_field
judges_level l = record {
  passes = λ _. rw same_refl;
  word = λ _. digit_word l;
  only = λ w a e. (tt, refl, same_true w (digit_byte l ∷ []) (judged_good (same w (digit_byte l ∷ [])) tt 5 a e).0);
}

-- a good ink field: the sign, or a digit below m
ink_only : (m : ℕ) (w : List ℕ) (a : ℕ) → ink_field m w ≡ good a → (x : (d : ℕ) × (d ≤ m)) × (a ≡ x.0) × (w ≡ ink_byte m x.0 ∷ [])
ink_only m [] a e = absurd (unfold ink_field in not_good 6 a e)
ink_only m (b ∷ c ∷ w) a e = absurd (unfold ink_field in not_good 6 a e)
ink_only m (b ∷ []) a e = elim (ℕ_discrete b open_byte) [
  | yes sign ↦
      let opens = field_open m b sign in
      ((m, omega arith), (cc), ap (λ c. c ∷ []) (sign ∙ sym (open_byte_lem m m refl)))
  | no digit ↦
      let (t, q) = judged_good (is_digit m b) (b - 48) 6 a (sym (field_digit m b digit) ∙ e) in
      let (h, k) = digit_back m b t in
      ((b - 48, omega arith), q, ap (λ c. c ∷ []) (k ∙ sym (level_byte m (b - 48) (λ q. omega arith))))
]

-- the byte of an ink is a good field, ..
ink_passes : (m d : ℕ) → d ≤ m → ink_field m (ink_byte m d ∷ []) ≡ good d
ink_passes m d h = go (ℕ_discrete d m)
  where
    go : Dec (d ≡ m) → ink_field m (ink_byte m d ∷ []) ≡ good d
    go (yes same) = rw (open_byte_lem m d same) (field_open m open_byte refl ∙ ap good (sym same))
    go (no below) =
        rw (level_byte m d below) (field_digit m (digit_byte d) (unfold digit_byte in λ e. omega arith) ∙ rw (digit_byte_lem m d (omega arith), byte_digit d) refl)

-- .. and a word
pub ink_word_lem : (m d : ℕ) → is_word (ink_byte m d ∷ []) ≡ true
ink_word_lem m d = by_cases (ℕ_discrete d m)
    (λ same. rw (open_byte_lem m d same) (unfold is_word all plain is_separator space newline in refl))
    (λ below. rw (level_byte m d below) (digit_word d))

-- the ink field: a level below m, or m as its sign
pub judges_ink : (m : ℕ) → Judges (ink_field m) ((d : ℕ) × (d ≤ m)) (λ x. x.0) (λ x. ink_byte m x.0 ∷ [])
judges_ink m = record { passes = λ x. ink_passes m x.0 x.1; word = λ x. ink_word_lem m x.0; only = ink_only m }

-- a good level field of a loose row
any_level_only : (m : ℕ) (w : List ℕ) (a : ℕ) → any_level m w ≡ good a → (x : (d : ℕ) × (d < m)) × (a ≡ x.0) × (w ≡ digit_byte x.0 ∷ [])
unfolding any_level
any_level_only m [] a e = absurd (not_good 5 a e)
any_level_only m (b ∷ c ∷ w) a e = absurd (not_good 5 a e)
any_level_only m (b ∷ []) a e =
    let (t, q) = judged_good (is_digit m b) (b - 48) 5 a e in
    let (h, k) = digit_back m b t in
    ((b - 48, h), q, ap (λ c. c ∷ []) k)

-- a level field of a loose row: any level below m
pub judges_any_level : (m : ℕ) → Judges (any_level m) ((d : ℕ) × (d < m)) (λ x. x.0) (λ x. digit_byte x.0 ∷ [])
unfolding any_level
judges_any_level m = record { passes = λ x. rw (digit_byte_lem m x.0 x.1, byte_digit x.0) refl; word = λ x. digit_word x.0; only = any_level_only m }
