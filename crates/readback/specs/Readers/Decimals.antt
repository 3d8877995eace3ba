-- Decimal values and digits: they are words, and different numbers have different decimal values.
-- Assumes nothing.
use Rattle.std.specs.Prelude.{◌<◌, ◌≤◌, ◌≡◌, ◌∷◌}
use Rattle.laws.specs.Prelude.{ℕ, ◌∙◌, sym, ap, refl, true, Bool, List, [], arith, length, ne_eqb}
use Rattle.rules.specs.Lists.{all}
use Rattle.rules.specs.Sheets.Fields.{is_separator}
use Rattle.rules.specs.Text.{space, newline, is_digit, decimal, value_of}
use Rattle.laws.specs.Numbers.Digits.{digit_iff, decimal_digits, decimal_value}
use Rattle.laws.specs.Lists.Tests.{all_weaker}
use Rattle.readback.specs.Readers.Fields.{plain, is_word}

-- ---- bytes of fields

-- from the byte of 0 on, no byte is a separator
pub high_plain : (b : ℕ) → 48 ≤ b → plain b ≡ true
unfolding plain is_separator space newline
high_plain b h = rw (ne_eqb b 32 (omega arith), ne_eqb b 10 (omega arith)) refl

-- bytes that are each at least the byte of 0 form a word
pub high_word : (p : ℕ → Bool) → ((b : ℕ) → p b ≡ true → 48 ≤ b) → (w : List ℕ) → all p w ≡ true → 0 < length w → is_word w ≡ true
unfolding is_word
high_word p h [] e l = absurd (omega arith)
high_word p h (b ∷ w) e l = all_weaker p plain (λ b d. high_plain b (h b d)) (b ∷ w) e

-- digits are a word
pub digits_word : (m : ℕ) (w : List ℕ) → all (is_digit m) w ≡ true → 0 < length w → is_word w ≡ true
digits_word m = high_word (is_digit m) (λ b e. ((digit_iff m b).0 e).0)

-- ---- decimal values

-- a decimal value is a word
pub decimal_word : (n : ℕ) → is_word (decimal n) ≡ true
decimal_word n = digits_word 10 (decimal n) (decimal_digits n).0 (decimal_digits n).1

-- different numbers have different decimal values
pub decimal_injective : (m n : ℕ) → decimal m ≡ decimal n → m ≡ n
decimal_injective m n e = sym (decimal_value m) ∙ ap (value_of 0) e ∙ decimal_value n
