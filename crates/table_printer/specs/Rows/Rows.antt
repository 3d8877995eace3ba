-- A table sheet's rows, byte by byte.
-- Assumes nothing.
use Rattle.std.specs.Prelude.{◌<◌, ◌≤◌, ◌+◌, ◌*◌, ◌≡◌, ◌∷◌, ◌++◌}
use Rattle.laws.specs.Prelude.{ℕ, ◌∙◌, ap, refl, List, [], map, add-one, arith, length, get_or, drop, length-append}
use Rattle.laws.specs.Prelude.{drop_of_length-le, drop-cons}
use Rattle.rules.specs.Text.{space, newline, digit_byte}
use Rattle.rules.specs.Sheets.Sheets.{levels_at, ink_byte}
use Rattle.rules.specs.Sheets.Printed.{line, printed_row, printed_rows}
use Rattle.net_sheets.specs.Text.Lines.{spaced, line_last}

abbrev pub one_digit : ℕ → List ℕ
one_digit l = digit_byte l ∷ []

-- the line of some levels and the byte of an ink
unfoldable pub row_text : List ℕ → ℕ → List ℕ
row_text levels b = line (map one_digit levels ++ ((b ∷ []) ∷ []))

pub row_text_lem : (m n p ink : ℕ) → printed_row m n p ink ≡ row_text (levels_at m n p) (ink_byte m ink)
unfolding printed_row row_text
row_text_lem m n p ink = refl

-- that line from level i on
unfoldable pub row_from_input : List ℕ → ℕ → ℕ → List ℕ
row_from_input levels b i = spaced (map one_digit (drop i levels)) ++ (b ∷ newline ∷ [])

digits_length : (levels : List ℕ) → length (spaced (map one_digit levels)) ≡ 2 * length levels
unfolding spaced
digits_length [] = refl
digits_length (l ∷ levels) = omega (arith, digits_length levels)

module _ (levels : List ℕ) (b : ℕ) where
  pub row_all : row_text levels b ≡ row_from_input levels b 0
  unfolding row_text row_from_input
  row_all = line_last (map one_digit levels) (b ∷ [])

  pub printed_row_next : (i : ℕ) → i < length levels → row_from_input levels b i ≡ digit_byte (get_or levels i 0) ∷ space ∷ row_from_input levels b (i + 1)
  unfolding row_from_input spaced
  printed_row_next i h = rw (add-one i, drop-cons levels i 0 h)

  pub row_end : (i : ℕ) → length levels ≤ i → row_from_input levels b i ≡ b ∷ newline ∷ []
  unfolding row_from_input spaced
  row_end i h = rw (drop_of_length-le levels {i = i} h)

  -- two bytes for each level and two for the ink
  pub row_text_length : length (row_text levels b) ≡ 2 * length levels + 2
  unfolding row_from_input
  row_text_length = ap length row_all ∙ length-append (spaced (map one_digit levels)) (b ∷ newline ∷ []) ∙ omega (arith, digits_length levels)

-- the rows from index k on, the first of them by its levels
pub printed_rows_next : (m n k : ℕ) (inks : List ℕ) → k < length inks
    → printed_rows m n k (drop k inks) ≡ row_text (levels_at m n k) (ink_byte m (get_or inks k 0)) ++ printed_rows m n (k + 1) (drop (k + 1) inks)
unfolding printed_rows
printed_rows_next m n k inks h = rw (drop-cons inks k 0 h, row_text_lem, add-one k)

pub rows_end : (m n k : ℕ) (inks : List ℕ) → length inks ≤ k → printed_rows m n k (drop k inks) ≡ []
unfolding printed_rows
rows_end m n k inks h = rw (drop_of_length-le inks {i = k} h)
