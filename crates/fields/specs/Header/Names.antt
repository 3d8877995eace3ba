-- A name's bytes, one by one; a name that is new.
-- Assumes nothing.
use Rattle.std.specs.Prelude.{◌<◌, ◌≤◌, ◌+◌, ◌≡◌, ◌&&◌, ◌||◌, ◌∷◌}
use Rattle.laws.specs.Prelude.{ℕ, ◌∙◌, refl, by_cases, true, false, Bool, not, and-eq-true_iff, false≢true, List, []}
use Rattle.laws.specs.Prelude.{lt_of_not-le, dec_le, arith, ltb, leb, length, get_or, lt-ltb, le-ltb, le-leb, lt-leb}
use Rattle.rules.specs.Lists.{all, any, same}
use Rattle.rules.specs.Text.{is_digit, text, zero_byte}
use Rattle.rules.specs.Sheets.Sheets.{is_letter, letter_first, is_name}
use Rattle.rules.specs.Limits.{most_name_bytes}

abbrev pub is_name_byte : ℕ → Bool
is_name_byte b = is_letter b || is_digit 10 b

-- the test that the name field makes
abbrev pub is_new : List (List ℕ) → List ℕ → Bool
is_new earlier w = is_name w && not (any (same w) earlier)

pub letter_low : (b : ℕ) → b < 97 → false ≡ is_letter b
unfolding is_letter
letter_low b h = simp (lt-leb 97 b h)

pub field_letter_high : (b : ℕ) → 97 ≤ b → leb b 122 ≡ is_letter b
unfolding is_letter
field_letter_high b h = simp (le-leb 97 b h)

pub digit_low : (b : ℕ) → is_letter b ≡ false → b < zero_byte → false ≡ is_name_byte b
unfolding is_digit
digit_low b e h = simp (e, lt-leb zero_byte b h)

-- at most k is below the number after k
up_to : (b k : ℕ) → leb b k ≡ ltb b (k + 1)
up_to b k =
    by_cases (dec_le b k)
    (λ h. rw (le-leb b k h, lt-ltb b (k + 1) (omega arith)))
    (λ h. rw (lt-leb b k (lt_of_not-le h), le-ltb b (k + 1) (omega (arith, lt_of_not-le h))))

pub digit_high : (b : ℕ) → is_letter b ≡ false → zero_byte ≤ b → leb b (zero_byte + 9) ≡ is_name_byte b
unfolding is_digit
digit_high b e h = up_to b (zero_byte + 9) ∙ simp (e, le-leb zero_byte b h)

first_letter : (w : List ℕ) → (length w ≡ 0 → ⊥) → letter_first w ≡ is_letter (get_or w 0 0)
unfolding letter_first
first_letter [] h = absurd (h refl)
first_letter (b ∷ w) h = refl

pub name_long : (w : List ℕ) → most_name_bytes < length w → false ≡ is_name w
unfolding is_name
name_long w h = simp (lt-leb (length w) most_name_bytes h)

pub name_empty : (w : List ℕ) → length w ≡ 0 → false ≡ is_name w
unfolding is_name letter_first
name_empty [] e = refl
name_empty (b ∷ w) e = absurd (omega arith)

module _ (w : List ℕ) (short : length w ≤ most_name_bytes) (some : length w ≡ 0 → ⊥) where
  pub name_first : is_letter (get_or w 0 0) ≡ false → false ≡ is_name w
  unfolding is_name
  name_first e = simp (le-leb (length w) most_name_bytes short, first_letter w some, e)

  pub name_bytes_lem : is_letter (get_or w 0 0) ≡ true → all is_name_byte w ≡ false → false ≡ is_name w
  unfolding is_name
  name_bytes_lem e q = simp (le-leb (length w) most_name_bytes short, first_letter w some, e, q)

  pub name_good : is_letter (get_or w 0 0) ≡ true → all is_name_byte w ≡ true → not (same w (text "ink")) ≡ is_name w
  unfolding is_name
  name_good e q = simp (le-leb (length w) most_name_bytes short, first_letter w some, e, q)

pub new_short : (earlier : List (List ℕ)) (w : List ℕ) → is_new earlier w ≡ true → length w ≤ most_name_bytes
new_short earlier w e =
    let short : most_name_bytes < length w → ⊥ = λ long. false≢true (name_long w long ∙ ((and-eq-true_iff (is_name w) (not (any (same w) earlier))).0 e).0) in
    omega arith
