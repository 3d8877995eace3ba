-- Document 01, section 'Sheets': the value of a sheet, field by field, with the number and the place of every refusal.
-- Assumes nothing.
use Rattle.std.specs.Prelude.{ℕ, zero, suc, ◌+◌, ◌-◌, ◌*◌, ◌/◌, ◌%◌, ◌^◌, Bool, true, false, not, ◌&&◌, ◌||◌, List, [], ◌∷◌, ◌++◌, map, length, get_or, eqb, leb, ltb}
use Rattle.std.proofs.Math.Option.{Option, none, some}
use Rattle.rules.specs.Lists.{range, all, any, find, same}
use Rattle.rules.specs.Text.{space, newline, text, digit_byte, open_byte, is_digit, decimal}
use Rattle.rules.specs.Limits.{levels_fit, cells_fit_of, fewest_inputs, most_inputs, most_name_bytes}
use Rattle.rules.specs.Sheets.Fields.{read, turned_back, Reader, ◌>>=◌, give, bad, good, Judge, judged, strict, Layout, field, field_in, the_word, closed}

-- ---- the two header lines and the names

-- levels m, inputs n, and the names in their order
pub record Header : Type 0 where
  pub levels : ℕ
  pub inputs : ℕ
  pub names : List (List ℕ)

-- "Levels, written m, is one digit from 2 to 9." 2: levels field. (A judge never gets an empty field: that is 1 before it is asked, see `field_of_in`.)
unfoldable pub levels_field : Judge ℕ
levels_field [] = bad 2
levels_field (b ∷ []) = judged (is_digit 10 b && levels_fit (b - 48)) (b - 48) 2
levels_field (b ∷ c ∷ w) = bad 2

-- the number from 2 to 12 whose decimal value is the field
unfoldable pub inputs_of : List ℕ → Option ℕ
inputs_of w = find (λ n. same w (decimal n)) (range fewest_inputs (most_inputs + 1 - fewest_inputs))

-- "Inputs, written n," is a number "without leading zero. m to the power n, the number of cells, is at most" the cell limit. "The cell limit rises to
-- 4,096 and inputs to 12 .. Refusals 3 and 9 and case 10 move with it" (document 02, K6). 3: inputs field, or over 4,096 cells
unfoldable pub inputs_field : ℕ → Judge ℕ
inputs_field m w = elim (inputs_of w) [ none ↦ bad 3 | some n ↦ judged (cells_fit_of m n) n 3 ]

-- "lowercase letters"
unfoldable pub is_letter : ℕ → Bool
is_letter b = leb 97 b && leb b 122

-- "letter first"
unfoldable pub letter_first : List ℕ → Bool
letter_first [] = false
letter_first (b ∷ w) = is_letter b

-- "A name has 1 to 8 bytes, lowercase letters and digits, letter first. It isn't `ink`"
unfoldable pub is_name : List ℕ → Bool
is_name w = leb (length w) most_name_bytes && letter_first w && all (λ b. is_letter b || is_digit 10 b) w && not (same w (text "ink"))

-- "no two inputs share one." 4: name malformed, `ink`, or repeated
unfoldable pub name_field : List (List ℕ) → Judge (List ℕ)
name_field earlier w = judged (is_name w && not (any (same w) earlier)) w 4

-- `count` names after those read before; `last` is the separator that is due after the last one
unfoldable pub name_fields_in : Layout → ℕ → ℕ → List (List ℕ) → Reader (List (List ℕ))
name_fields_in layout last zero earlier = give earlier
name_fields_in layout last (suc zero) earlier = field_in layout (name_field earlier) last >>= λ w. give (earlier ++ (w ∷ []))
name_fields_in layout last (suc (suc count)) earlier =
    field_in layout (name_field earlier) space >>= λ w. name_fields_in layout last (suc count) (earlier ++ (w ∷ []))

-- "Both kinds of sheet start with the line `levels inputs`, then a line of two decimal values." Line 3 has the names.
unfoldable pub header_lines_in : Layout → ℕ → Reader Header
header_lines_in layout last = do
  _ ← field_in layout (the_word "levels") space
  _ ← field_in layout (the_word "inputs") newline
  m ← field_in layout levels_field space
  n ← field_in layout (inputs_field m) newline
  names ← name_fields_in layout last n []
  give (record { levels = m; inputs = n; names = names })

-- the two functions for a strict sheet
abbrev pub name_fields : ℕ → ℕ → List (List ℕ) → Reader (List (List ℕ))
name_fields last count earlier = name_fields_in strict last count earlier

abbrev pub header_lines : ℕ → Reader Header
header_lines last = header_lines_in strict last

-- ---- net sheet

-- References are numbered: input i is i, from 0, and gate k, numbered from 1, is n + k − 1.
pub record Gate : Type 0 where
  pub left : ℕ
  pub right : ℕ
  pub digits : List ℕ

-- "Left and right are each an input name or the decimal number, without leading zero, of an earlier gate."
unfoldable pub reference_text : List (List ℕ) → ℕ → List ℕ
reference_text names r = elim (ltb r (length names)) [ true ↦ get_or names r [] | false ↦ decimal (r + 1 - length names) ]

-- what a field of a gate line refers to, with `earlier` gates before it
unfoldable pub reference_of : List (List ℕ) → ℕ → List ℕ → Option ℕ
reference_of names earlier w = find (λ r. same w (reference_text names r)) (range 0 (length names + earlier))

-- "No input or gate is referred to twice." 7: reference to no input and no earlier gate; 8: reference used before
unfoldable pub reference_field : List (List ℕ) → ℕ → List ℕ → Judge ℕ
reference_field names earlier used w =
    elim (reference_of names earlier w) [ none ↦ bad 7 | some r ↦ judged (not (any (eqb r) used)) r 8 ]

-- "Table is m·m digits below m, left's level slowest." 6: a gate's table field
unfoldable pub digits_field : ℕ → Judge (List ℕ)
digits_field m w = judged (eqb (length w) (m * m) && all (is_digit m) w) (map (λ b. b - 48) w) 6

-- the references that some gates use
unfoldable pub used_by : List Gate → List ℕ
used_by [] = []
used_by (g ∷ gates) = g.left ∷ g.right ∷ used_by gates

-- a gate line: left, right, table
unfoldable pub gate_line : ℕ → List (List ℕ) → List Gate → Reader Gate
gate_line m names earlier = do
  left ← field (reference_field names (length earlier) (used_by earlier)) space
  right ← field (reference_field names (length earlier) (left ∷ used_by earlier)) space
  digits ← field (digits_field m) newline
  give (record { left = left; right = right; digits = digits })

-- "inputs may stay unused, earlier gates may not" (document 02, K12)
unfoldable pub earlier_used : ℕ → List Gate → Bool
earlier_used n gates = all (λ k. any (eqb (n + k)) (used_by gates)) (range 0 (length gates - 1))

-- "26, an earlier gate is never used, place the sheet's length, judged last in the net sheet" (document 02, K12): nothing is left to read here
unfoldable pub all_used : ℕ → List Gate → Reader (Unit {0})
all_used n gates s at = elim (earlier_used n gates) [ true ↦ read tt s at | false ↦ turned_back 26 at ]

-- the sheet's end here, or more of it
unfoldable pub or_end : {A : Type 0} → A → Reader A → Reader A
or_end a more [] at = read a [] at
or_end a more (b ∷ s) at = more (b ∷ s) at

-- "A net sheet may have from 1 to n − 1 gate lines, and the sheet's end closes it" (document 02, K12). They are "numbered from 1"; up to `count`
-- more, one at least
unfoldable pub gate_lines : ℕ → List (List ℕ) → ℕ → List Gate → Reader (List Gate)
gate_lines m names zero earlier = give earlier
gate_lines m names (suc count) earlier =
    gate_line m names earlier >>= λ g. or_end (earlier ++ (g ∷ [])) (gate_lines m names count (earlier ++ (g ∷ [])))

-- the value of a net sheet
pub record Net : Type 0 where
  pub header : Header
  pub gates : List Gate

-- "Line 3 has the n input names. Line 4 is `left right table`." Then the gate lines. Nothing follows the last line.
unfoldable pub net_sheet : Reader Net
net_sheet = do
  h ← header_lines newline
  _ ← field (the_word "left") space
  _ ← field (the_word "right") space
  _ ← field (the_word "table") newline
  gates ← gate_lines h.levels h.names (h.inputs - 1) []
  _ ← closed
  _ ← all_used h.inputs gates
  give (record { header = h; gates = gates })

-- ---- table sheet

-- "The input levels count upward from all zeros, last input fastest. A cell's index is its line's place in that count, from
-- 0." The level of input i at index p:
unfoldable pub level : ℕ → ℕ → ℕ → ℕ → ℕ
level m n p i = p / m ^ (n - 1 - i) % m

-- all levels at index p
unfoldable pub levels_at : ℕ → ℕ → ℕ → List ℕ
levels_at m n p = map (level m n p) (range 0 n)

-- 5: row's input level isn't the next in the count
unfoldable pub level_field : ℕ → Judge (Unit {0})
level_field due w = judged (same w (digit_byte due ∷ [])) tt 5

-- "the ink level". 6: ink field. Or, where an assignment cannot occur, "its maker writes `-` as their ink. Table sheets take it, and a cell holds m
-- for it." (document 02, K13) (No judge gets an empty field.)
unfoldable pub ink_field : ℕ → Judge ℕ
ink_field m [] = bad 6
ink_field m (b ∷ []) = elim (eqb b open_byte) [ true ↦ good m | false ↦ judged (is_digit m b) (b - 48) 6 ]
ink_field m (b ∷ c ∷ w) = bad 6

-- the byte that an ink is written as
unfoldable pub ink_byte : ℕ → ℕ → ℕ
ink_byte m ink = elim (eqb ink m) [ true ↦ open_byte | false ↦ digit_byte ink ]

-- a row's input levels, each followed by a space
unfoldable pub level_fields : List ℕ → Reader (Unit {0})
level_fields [] = give tt
level_fields (l ∷ ls) = field (level_field l) space >>= λ _. level_fields ls

-- "Then one line for each cell: n input levels and the ink level." `count` lines from index p on, after the inks before.
unfoldable pub row_lines : ℕ → ℕ → ℕ → ℕ → List ℕ → Reader (List ℕ)
row_lines m n p zero inks = give inks
row_lines m n p (suc count) inks =
    level_fields (levels_at m n p) >>= λ _. field (ink_field m) newline >>= λ ink. row_lines m n (suc p) count (inks ++ (ink ∷ []))

-- "A table sheet's table lists its inks in the order of its lines."
pub record Table : Type 0 where
  pub header : Header
  pub inks : List ℕ

-- "Line 3 has the n input names and then `ink`. Then one line for each cell". Nothing follows the last line.
unfoldable pub table_sheet : Reader Table
table_sheet = do
  h ← header_lines space
  _ ← field (the_word "ink") newline
  inks ← row_lines h.levels h.inputs 0 (h.levels ^ h.inputs) []
  _ ← closed
  give (record { header = h; inks = inks })

-- all of this file computes
unfoldable pub computing : Unit {0}
unfolding levels_field inputs_of inputs_field is_letter letter_first is_name name_field name_fields_in header_lines_in reference_text reference_of reference_field
    digits_field used_by gate_line or_end gate_lines earlier_used all_used net_sheet level levels_at level_field ink_field ink_byte level_fields row_lines table_sheet
computing = tt
