-- Document 01, section 'Sheets', the other way: the bytes of a sheet from its header and its gates or inks.
-- Assumes nothing.
use Rattle.std.specs.Prelude.{ℕ, suc, List, [], ◌∷◌, ◌++◌, map}
use Rattle.rules.specs.Lists.{concat_map}
use Rattle.rules.specs.Text.{space, newline, text, digit_byte, decimal}
use Rattle.rules.specs.Sheets.Sheets.{Header, Gate, Net, Table, reference_text, levels_at, ink_byte}

-- "Every line ends in one line feed (byte 10)". "Fields are parted by exactly one space."
unfoldable pub line : List (List ℕ) → List ℕ
line [] = newline ∷ []
line (w ∷ []) = w ++ (newline ∷ [])
line (w ∷ v ∷ ws) = w ++ (space ∷ line (v ∷ ws))

-- the first three lines, where the third has the given fields
unfoldable pub first_lines : Header → List (List ℕ) → List ℕ
first_lines h third =
    line (text "levels" ∷ text "inputs" ∷ []) ++ line (decimal h.levels ∷ decimal h.inputs ∷ []) ++ line third

-- a gate line
unfoldable pub printed_gate : List (List ℕ) → Gate → List ℕ
printed_gate names g = line (reference_text names g.left ∷ reference_text names g.right ∷ map digit_byte g.digits ∷ [])

-- "Line 3 has the n input names. Line 4 is `left right table`." Then the gate lines
unfoldable pub printed_net : Net → List ℕ
printed_net net =
    first_lines net.header net.header.names
    ++ line (text "left" ∷ text "right" ∷ text "table" ∷ [])
    ++ concat_map (printed_gate net.header.names) net.gates

-- the row of index p
unfoldable pub printed_row : ℕ → ℕ → ℕ → ℕ → List ℕ
printed_row m n p ink = line (map (λ l. digit_byte l ∷ []) (levels_at m n p) ++ ((ink_byte m ink ∷ []) ∷ []))

-- the rows from index p on
unfoldable pub printed_rows : ℕ → ℕ → ℕ → List ℕ → List ℕ
printed_rows m n p [] = []
printed_rows m n p (ink ∷ inks) = printed_row m n p ink ++ printed_rows m n (suc p) inks

-- "Line 3 has the n input names and then `ink`. Then one line for each cell"
unfoldable pub printed_table : Table → List ℕ
printed_table t =
    first_lines t.header (t.header.names ++ (text "ink" ∷ []))
    ++ printed_rows t.header.levels t.header.inputs 0 t.inks

-- all of this file computes
unfoldable pub computing : Unit {0}
unfolding line first_lines printed_gate printed_net printed_row printed_rows printed_table
computing = tt
