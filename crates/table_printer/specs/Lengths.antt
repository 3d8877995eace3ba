-- The length of a table sheet.
-- Assumes nothing.
use Rattle.std.specs.Prelude.{◌<◌, ◌≤◌, ◌+◌, ◌*◌, ◌≡◌, ◌∷◌}
use Rattle.laws.specs.Prelude.{ℕ, suc, zero, ◌∙◌, sym, ap, refl, List, [], zero-mul, suc-mul, arith, length, get_or}
use Rattle.laws.specs.Prelude.{length-append, length-drop, length-take}
use Rattle.rules.specs.Text.{space, newline, text, decimal}
use Rattle.rules.specs.Lists.{range}
use Rattle.rules.specs.Sheets.Sheets.{levels_at, ink_byte}
use Rattle.rules.specs.Sheets.Printed.{line, printed_row, printed_rows, printed_table}
use Rattle.laws.specs.Numbers.Levels.{levels_length}
use Rattle.nets.specs.declared.forms.Header.{Header}
use Rattle.nets.specs.Forms.{name_in, table_in}
use Rattle.net_sheets.specs.Text.Lines.{spaced, spaced_from, spaced_more}
use Rattle.net_sheets.specs.Text.Names.{NamesInside}
use Rattle.table_printer.specs.Rows.Rows.{row_text_lem, row_text_length}
use Rattle.table_printer.specs.Rows.Parts.{table_parts}

-- the digits of the longest decimal value: a number has 64 bits
abbrev pub most_decimal : ℕ
most_decimal = 20

-- `levels inputs`, the space of line 2, `ink`, and the line feeds of the three lines
abbrev fixed_bytes : ℕ
fixed_bytes = 20

-- the length of the first n names, each with the space after it
unfoldable pub lens_total : List ℕ → ℕ → ℕ
lens_total lens zero = 0
lens_total lens (suc n) = lens_total lens n + (get_or lens n 0 + 1)

module _ (s : List ℕ) (h : Header) where
  name_length : NamesInside s h → (i : ℕ) → i < h.inputs → length (name_in s h i) ≡ get_or h.lens i 0
  unfolding name_in
  name_length n i l = rw (length-take, length-drop) (omega (arith, n.inside i l))

  pub names_total : NamesInside s h → (n : ℕ) → n ≤ h.inputs → length (spaced_from (name_in s h) 0 n) ≡ lens_total h.lens n
  unfolding lens_total spaced_from spaced range
  names_total i zero l = refl
  names_total i (suc n) l =
      ap length (spaced_more (name_in s h) n)
      ∙ simp length-append (omega (arith, names_total i n (omega arith), name_length i n l))

one_row : (m n p ink : ℕ) → length (printed_row m n p ink) ≡ 2 * n + 2
one_row m n p ink = ap length (row_text_lem m n p ink) ∙ row_text_length (levels_at m n p) (ink_byte m ink) ∙ ap (λ (k : ℕ). 2 * k + 2) (levels_length m n p)

rows_length : (m n p : ℕ) (inks : List ℕ) → length (printed_rows m n p inks) ≡ length inks * (2 * n + 2)
unfolding printed_rows
rows_length m n p [] = sym (zero-mul (2 * n + 2))
rows_length m n p (ink ∷ inks) =
    length-append (printed_row m n p ink) (printed_rows m n (suc p) inks)
    ∙ omega (arith, rows_length m n (suc p) inks, one_row m n p ink, suc-mul (length inks) (2 * n + 2))

-- the fixed words and separators, the two decimal values, the names, and 2 n + 2 bytes for each row
pub printed_table_length : (s : List ℕ) (h : Header) (inks : List ℕ) → length (printed_table (table_in s h inks))
    ≡ fixed_bytes + (length (decimal h.levels) + length (decimal h.inputs)) + length
    (spaced_from (name_in s h) 0 h.inputs) + length inks * (2 * h.inputs + 2)
unfolding line text space newline
printed_table_length s h inks =
    ap length (table_parts s h inks) ∙ simp (length-append, rows_length) (omega arith)

-- the length of a table sheet, for any `count` inks
abbrev pub Measures : Header → ℕ → ℕ → Type 0
Measures h count need = (s inks : List ℕ) → NamesInside s h → length inks ≡ count → need ≡ length (printed_table (table_in s h inks))
