-- Document 02, K8: the loose table sheet, field by field, with the number and the place of every refusal; and its rules stated without a reader.
-- "Customers export loosely laid tables. A tidier accepts one or more spaces between fields, spaces before a line feed, rows in any order."
-- Assumes nothing.
use Rattle.std.specs.Prelude.{ℕ, zero, suc, ◌+◌, ◌-◌, ◌*◌, ◌^◌, ◌≤◌, ◌<◌, ◌≡◌, Bool, true, false, List, [], ◌∷◌, ◌++◌, map, length, replicate, eqb}
use Rattle.std.proofs.Math.Option.{Option, none, some}
use Rattle.rules.specs.Lists.{range, any, find}
use Rattle.rules.specs.Text.{space, newline, text, digit_byte, is_digit, decimal, zero_byte}
use Rattle.rules.specs.Sheets.Fields.{Reader, read, turned_back, ◌>>=◌, give, bad, Judge, judged, loose, field_in, the_word, closed}
use Rattle.rules.specs.Sheets.Sheets.{Header, Table, header_lines_in, ink_field, ink_byte, levels_at}
use Rattle.rules.specs.Sheets.SheetRules.{Distinct, HeaderRules}
use Rattle.rules.specs.Calls.Answers.{Answer}
use Rattle.rules.specs.Sheets.Reading.{answered}

-- a row: the index of the assignment that it names, and that assignment's ink
pub record Row : Type 0 where
  pub index : ℕ
  pub ink : ℕ

-- the value of a loose sheet: its header, and its rows in the order of their lines
pub record LooseTable : Type 0 where
  pub header : Header
  pub rows : List Row

-- ---- the reader

-- "an input field that is no digit below m is 5" (No judge gets an empty field.)
unfoldable pub any_level : ℕ → Judge ℕ
any_level m [] = bad 5
any_level m (b ∷ []) = judged (is_digit m b) (b - zero_byte) 5
any_level m (b ∷ c ∷ w) = bad 5

-- `count` input fields, each followed by a space: the index of the assignment, "last input fastest", where the levels read so far give `before`
unfoldable pub index_fields : ℕ → ℕ → ℕ → Reader ℕ
index_fields m zero before = give before
index_fields m (suc count) before = field_in loose (any_level m) space >>= λ l. index_fields m count (before * m + l)

-- does the row name the assignment of index p?
abbrev pub is_of : ℕ → Row → Bool
is_of p row = eqb row.index p

-- 20: "assignment given in an earlier row, placed at the row's first field, judged just before its ink field, even an empty one". `first` is the
-- place of that field.
unfoldable pub not_given : ℕ → List Row → ℕ → Reader (Unit {0})
not_given first earlier p s at = elim (any (is_of p) earlier) [ true ↦ turned_back 20 first | false ↦ read tt s at ]

-- a row that starts at `first`
unfoldable pub row_from : ℕ → ℕ → List Row → ℕ → Reader Row
row_from m n earlier first = do
  p ← index_fields m n 0
  _ ← not_given first earlier p
  ink ← field_in loose (ink_field m) newline
  give (record { index = p; ink = ink })

-- "rows in any order": `count` rows after the earlier ones
unfoldable pub loose_rows : ℕ → ℕ → ℕ → List Row → Reader (List Row)
loose_rows m n zero earlier = give earlier
loose_rows m n (suc count) earlier = (λ s at. row_from m n earlier at s at) >>= λ row. loose_rows m n count (earlier ++ (row ∷ []))

-- the first three lines, then a row for each cell, and nothing after the last. "Too few rows is still 1"
unfoldable pub loose_sheet : Reader LooseTable
loose_sheet = do
  h ← header_lines_in loose space
  _ ← field_in loose (the_word "ink") newline
  rows ← loose_rows h.levels h.inputs (h.levels ^ h.inputs) []
  _ ← closed
  give (record { header = h; rows = rows })

-- read to its end or to its refusal
unfoldable pub read_loose : List ℕ → Answer LooseTable
read_loose s = answered (loose_sheet s 0)

-- ---- its table

-- the ink of a row, or 0 if there is none
abbrev pub ink_of : Option Row → ℕ
ink_of none = 0
ink_of (some row) = row.ink

-- "at each assignment, the ink of the row that named it"
unfoldable pub ink_named : List Row → ℕ → ℕ
ink_named rows p = ink_of (find (is_of p) rows)

-- the table, its inks in index order
unfoldable pub table_of_loose : LooseTable → Table
table_of_loose t =
    record { header = t.header; inks = map (ink_named t.rows) (range 0 (t.header.levels ^ t.header.inputs)) }

-- ---- the rules without a reader

-- `count` spaces
unfoldable pub blanks : ℕ → List ℕ
blanks count = replicate count space

-- A line's fields in loose layout: "one or more spaces between fields, spaces before a line feed"
abbrev pub LooseLine : List (List ℕ) → List ℕ → Type 0
LooseLine [] s = s ≡ newline ∷ []
LooseLine (w ∷ []) s = (count : ℕ) × (s ≡ w ++ (blanks count ++ newline ∷ []))
LooseLine (w ∷ v ∷ ws) s = (count : ℕ) × (rest : List ℕ) × (s ≡ w ++ (blanks (suc count) ++ rest)) × LooseLine (v ∷ ws) rest

-- some lines, one after the other
abbrev pub LooseLines : List (List (List ℕ)) → List ℕ → Type 0
LooseLines [] s = s ≡ []
LooseLines (ws ∷ lines) s = (first rest : List ℕ) × (s ≡ first ++ rest) × LooseLine ws first × LooseLines lines rest

-- the fields of a row
unfoldable pub row_fields : ℕ → ℕ → Row → List (List ℕ)
row_fields m n row = map (λ l. digit_byte l ∷ []) (levels_at m n row.index) ++ ((ink_byte m row.ink ∷ []) ∷ [])

-- the fields of a loose sheet, line by line
unfoldable pub loose_fields : LooseTable → List (List (List ℕ))
loose_fields t =
    let h = t.header in
    (text "levels" ∷ text "inputs" ∷ [])
    ∷ (decimal h.levels ∷ decimal h.inputs ∷ [])
    ∷ (h.names ++ (text "ink" ∷ []))
    ∷ map (row_fields h.levels h.inputs) t.rows

-- a row names an assignment and has an ink below m, or m if it is open
abbrev pub EachRow : ℕ → ℕ → List Row → Type 0
EachRow m n [] = Unit {0}
EachRow m n (row ∷ rows) = (row.index < m ^ n) × (row.ink ≤ m) × EachRow m n rows

-- A loose sheet's table follows every rule: a good header, and as many rows as cells, no two for the same assignment
pub record LooseRules (t : LooseTable) : Type 0 where
  pub header : HeaderRules t.header
  pub count : length t.rows ≡ t.header.levels ^ t.header.inputs
  pub each : EachRow t.header.levels t.header.inputs t.rows
  pub once : Distinct (map (λ row. row.index) t.rows)

-- a text is a loose sheet of such a table
pub record IsLoose (s : List ℕ) (t : LooseTable) : Type 0 where
  pub lines : LooseLines (loose_fields t) s
  pub kept : LooseRules t

-- all of this file computes
unfoldable pub computing : Unit {0}
unfolding any_level index_fields not_given row_from loose_rows loose_sheet read_loose ink_named table_of_loose blanks row_fields loose_fields
computing = tt
