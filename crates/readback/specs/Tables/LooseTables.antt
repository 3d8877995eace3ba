-- The table of a loose sheet: each row gives its ink to the assignment that it names, every assignment is named by exactly one row, and so the table
-- follows the rules of a table sheet. A strict sheet is a loose one, with its rows in order, and is the sheet of its own table.
-- Assumes nothing.
use Rattle.std.specs.Prelude.{◌<◌, ◌≤◌, ◌+◌, ◌^◌, ◌≡◌, ◌∷◌, ◌++◌}
use Rattle.laws.specs.Prelude.{ℕ, suc, zero, ◌∙◌, sym, ap, refl, subst⁻¹, true, false, Bool, false≢true, List, [], map}
use Rattle.laws.specs.Prelude.{append_assoc, zero-add, arith, eqb, length, get_or, length-map, ext_get_or, eq-eqb, eqb-true, ne_eqb, test_cases}
use Rattle.rules.specs.Calls.Answers.{accepted}
use Rattle.rules.specs.Lists.{range, any, find}
use Rattle.rules.specs.Sheets.Printed.{line, first_lines, printed_row, printed_rows, printed_table}
use Rattle.rules.specs.Sheets.Reading.{read_table}
use Rattle.rules.specs.Sheets.SheetRules.{Distinct, TableRules}
use Rattle.rules.specs.Sheets.Sheets.{Table}
use Rattle.rules.specs.Text.{text, decimal}
use Rattle.rules.specs.Sheets.LooseSheet.{Row, LooseTable, ink_named, table_of_loose, blanks, LooseLine, LooseLines, row_fields, loose_fields, EachRow}
use Rattle.rules.specs.Sheets.LooseSheet.{LooseRules, IsLoose, read_loose}
use Rattle.laws.specs.Lists.Counts.{times_range}
use Rattle.laws.specs.Lists.Distinct.{In, NotIn, not_in_cons, times_distinct, all_stand}
use Rattle.laws.specs.Lists.Ranges.{map_range_length, map_range_at}
use Rattle.readback.specs.Sheets.ReadBack.{table_accepted}
use Rattle.readback.specs.Tables.LooseSheets.{loose_sheets_lem}

-- ---- the ink of the row that names an assignment

-- the numbers of the assignments that rows name
abbrev pub indices : List Row → List ℕ
indices rows = map (λ row. row.index) rows

-- the first row's ink, if it names p; otherwise another row's
named_first : (row : Row) (rows : List Row) (p : ℕ) → row.index ≡ p → ink_named (row ∷ rows) p ≡ row.ink
unfolding ink_named find
named_first row rows p e = rw (eq-eqb row.index p e, find) refl

named_later : (row : Row) (rows : List Row) (p : ℕ) → (row.index ≡ p → ⊥) → ink_named (row ∷ rows) p ≡ ink_named rows p
unfolding ink_named find
named_later row rows p e = rw (ne_eqb row.index p e, find) refl

-- each row gives its ink to the assignment that it names
pub ink_of_row_lem : (rows : List Row) → Distinct (indices rows) → (k : ℕ) (d : Row) → k < length rows → ink_named rows (get_or rows k d).index ≡ (get_or rows k d).ink
ink_of_row_lem [] once k d h = absurd (omega arith)
ink_of_row_lem (row ∷ rows) once zero d h = named_first row rows row.index refl
ink_of_row_lem (row ∷ rows) once (suc k) d h =
    named_later row rows (get_or rows k d).index
    (λ e. not_there row.index rows once.0 k d (omega arith) e)
    ∙ ink_of_row_lem rows once.1 k d (omega arith)
  where
    not_there : (x : ℕ) (rows : List Row) → NotIn x (indices rows) → (k : ℕ) (d : Row) → k < length rows → x ≡ (get_or rows k d).index → ⊥
    not_there x [] h k d l e = omega arith
    not_there x (row ∷ rows) h zero d l e = ((not_in_cons x row.index (indices rows)).0 h).0 e
    not_there x (row ∷ rows) h (suc k) d l e = not_there x rows ((not_in_cons x row.index (indices rows)).0 h).1 k d (omega arith) e

-- an assignment that is among those named is named by some row
pub row_of : (rows : List Row) (p : ℕ) → In p (indices rows) → (d : Row) → (k : ℕ) × (k < length rows) × ((get_or rows k d).index ≡ p)
unfolding any
row_of [] p h d = absurd (false≢true h)
row_of (row ∷ rows) p h d = go (eqb p row.index) refl (λ e. row_of rows p e d) h
  where
    go : (t : Bool) → eqb p row.index ≡ t → (In p (indices rows) → (k : ℕ) × (k < length rows) × ((get_or rows k d).index ≡ p))
        → elim t [ true ↦ true | false ↦ any (eqb p) (indices rows) ] ≡ true
        → (k : ℕ) × (k < suc (length rows)) × ((get_or (row ∷ rows) k d).index ≡ p)
    go true e later h = (0, omega arith, sym (eqb-true p row.index e))
    go false e later h =
        let (k, l, i) = later h in
        (suc k, omega arith, i)

module _ (m n : ℕ) where
  -- no row names anything past the table
  named_below : (rows : List Row) → EachRow m n rows → (z : ℕ) → m ^ n ≤ z → NotIn z (indices rows)
  unfolding any
  named_below [] each z h = refl
  named_below (row ∷ rows) (i, _, each) z h = (not_in_cons z row.index (indices rows)).1 (λ e. omega arith, named_below rows each z h)

  -- each row names an assignment
  pub index_named : (rows : List Row) → EachRow m n rows → (k : ℕ) (d : Row) → k < length rows → (get_or rows k d).index < m ^ n
  index_named [] each k d h = absurd (omega arith)
  index_named (row ∷ rows) (i, _, each) zero d h = i
  index_named (row ∷ rows) (_, _, each) (suc k) d h = index_named rows each k d (omega arith)

  -- an ink that is given is below m, or m if it is open
  named_ink : (rows : List Row) → EachRow m n rows → (p : ℕ) → ink_named rows p ≤ m
  unfolding ink_named find
  named_ink [] each p = omega arith
  named_ink (row ∷ rows) (_, j, each) p =
      test_cases (eqb row.index p) (λ e. rw (e, find) j) (λ e. rw (e, find) (named_ink rows each p))

-- ---- the table

module _ (t : LooseTable) (kept : LooseRules t) where
  abbrev m : ℕ
  m = t.header.levels

  abbrev n : ℕ
  n = t.header.inputs

  -- every assignment is named by some row
  pub all_named : (p : ℕ) → p < m ^ n → In p (indices t.rows)
  all_named p h = all_stand (m ^ n) (indices t.rows) kept.once (named_below m n t.rows kept.each)
      (omega (arith, length-map t.rows (λ row. row.index), kept.count)) p h

  -- the ink at an index of the table
  pub ink_at_lem : (p : ℕ) → p < m ^ n → get_or (table_of_loose t).inks p 0 ≡ ink_named t.rows p
  unfolding table_of_loose
  ink_at_lem p h = map_range_at (ink_named t.rows) 0 (m ^ n) p 0 h ∙ ap (ink_named t.rows) (zero-add p)

  -- the table follows the rules of a table sheet
  pub loose_kept : TableRules (table_of_loose t)
  unfolding table_of_loose
  loose_kept = record {
    header = kept.header;
    count = map_range_length (ink_named t.rows) 0 (m ^ n);
    within = λ k l. rw (ink_at_lem k (omega (arith, map_range_length (ink_named t.rows) 0 (m ^ n)))) (named_ink m n t.rows kept.each k);
  }

-- ---- strict sheets

-- rows in order, from index p on
unfoldable pub indexed_rows : ℕ → List ℕ → List Row
indexed_rows p [] = []
indexed_rows p (ink ∷ inks) = record { index = p; ink = ink } ∷ indexed_rows (suc p) inks

-- a table with its rows in order
unfoldable pub in_order_of : Table → LooseTable
in_order_of t = record { header = t.header; rows = indexed_rows 0 t.inks }

-- a printed line is a loose one
line_loose : (ws : List (List ℕ)) → LooseLine ws (line ws)
unfolding line blanks
line_loose [] = refl
line_loose (w ∷ []) = (0, refl)
line_loose (w ∷ v ∷ ws) = (0, line (v ∷ ws), refl, line_loose (v ∷ ws))

rows_loose : (m n p : ℕ) (inks : List ℕ) → LooseLines (map (row_fields m n) (indexed_rows p inks)) (printed_rows m n p inks)
unfolding indexed_rows printed_rows printed_row row_fields
rows_loose m n p [] = refl
rows_loose m n p (ink ∷ inks) =
    (printed_row m n p ink, printed_rows m n (suc p) inks, refl, line_loose (row_fields m n (record { index = p; ink = ink })), rows_loose m n (suc p) inks)

-- the rows name the indices in order
rows_indices : (p : ℕ) (inks : List ℕ) → indices (indexed_rows p inks) ≡ range p (length inks)
unfolding indexed_rows range
rows_indices p [] = refl
rows_indices p (ink ∷ inks) = ap (λ (ps : List ℕ). p ∷ ps) (rows_indices (suc p) inks)

rows_length : (p : ℕ) (inks : List ℕ) → length (indexed_rows p inks) ≡ length inks
unfolding indexed_rows
rows_length p [] = refl
rows_length p (ink ∷ inks) = ap suc (rows_length (suc p) inks)

rows_each : (m n p : ℕ) (inks : List ℕ) → p + length inks ≤ m ^ n → ((k : ℕ) → k < length inks → get_or inks k 0 ≤ m) → EachRow m n (indexed_rows p inks)
unfolding indexed_rows
rows_each m n p [] h within = tt
rows_each m n p (ink ∷ inks) h within = (omega arith, within 0 (omega arith), rows_each m n (suc p) inks (omega arith) (λ k l. within (suc k) (omega arith)))

-- each has its own ink
rows_ink : (p : ℕ) (inks : List ℕ) (k : ℕ) → k < length inks → ink_named (indexed_rows p inks) (p + k) ≡ get_or inks k 0
unfolding indexed_rows
rows_ink p [] k h = absurd (omega arith)
rows_ink p (ink ∷ inks) zero h = named_first _ (indexed_rows (suc p) inks) (p + 0) (omega arith)
rows_ink p (ink ∷ inks) (suc k) h =
    named_later _ (indexed_rows (suc p) inks) (p + suc k) (λ e. omega arith)
    ∙ ap (ink_named (indexed_rows (suc p) inks)) (let z : p + suc k ≡ suc p + k = omega arith in z)
    ∙ rows_ink (suc p) inks k (omega arith)

module _ (t : Table) (kept : TableRules t) where
  -- the sheet of a table is a loose sheet ..
  pub strict_loose : IsLoose (printed_table t) (in_order_of t)
  unfolding in_order_of loose_fields printed_table first_lines
  strict_loose =
      let h = t.header in
      let words = line (text "levels" ∷ text "inputs" ∷ []) in
      let values = line (decimal h.levels ∷ decimal h.inputs ∷ []) in
      let third = line (h.names ++ (text "ink" ∷ [])) in
      let rows = printed_rows h.levels h.inputs 0 t.inks in
      let apart : words ++ values ++ third ++ rows ≡ words ++ (values ++ (third ++ rows)) = simp append_assoc in
      record {
        lines = (
          words,
          values ++ (third ++ rows),
          apart,
          line_loose (text "levels" ∷ text "inputs" ∷ []),
          (
            values,
            third ++ rows,
            refl,
            line_loose (decimal h.levels ∷ decimal h.inputs ∷ []),
            (third, rows, refl, line_loose (h.names ++ (text "ink" ∷ [])), rows_loose h.levels h.inputs 0 t.inks),
          ),
        );
        kept = record {
          header = kept.header;
          count = rows_length 0 t.inks ∙ kept.count;
          each = rows_each h.levels h.inputs 0 t.inks (omega (arith, kept.count)) kept.within;
          once = subst⁻¹ Distinct (rows_indices 0 t.inks) (times_distinct (range 0 (length t.inks)) (λ r. times_range r 0 (length t.inks)));
        };
      }

  -- .. of that same table
  pub strict_table : table_of_loose (in_order_of t) ≡ t
  unfolding in_order_of table_of_loose
  strict_table =
      let count = t.header.levels ^ t.header.inputs in
      let same : map (ink_named (indexed_rows 0 t.inks)) (range 0 count) ≡ t.inks =
      ext_get_or 0 _ _ (map_range_length (ink_named (indexed_rows 0 t.inks)) 0 count ∙ sym kept.count)
      (λ i h.
      let i< : i < count = omega (arith, map_range_length (ink_named (indexed_rows 0 t.inks)) 0 count) in
      map_range_at (ink_named (indexed_rows 0 t.inks)) 0 count i 0 i< ∙ rows_ink 0 t.inks i (omega (arith, kept.count))) in
      (λ q. record { header = t.header; inks = same q })

-- an accepted table sheet is the sheet of its table, so it is also an accepted loose sheet with that table
module _ (s : List ℕ) (t : Table) (reads : read_table s ≡ accepted t) where
  pub strict_read : read_loose s ≡ accepted (in_order_of t)
  strict_read = ap read_loose (table_accepted s t reads).0 ∙ (loose_sheets_lem (printed_table t) (in_order_of t)).1 (strict_loose t (table_accepted s t reads).1)

  pub strict_same : table_of_loose (in_order_of t) ≡ t
  strict_same = strict_table t (table_accepted s t reads).1
