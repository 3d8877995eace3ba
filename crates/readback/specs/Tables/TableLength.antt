-- How long an accepted table sheet can be, and which are longer than what a program reads.
-- Assumes nothing.
use Rattle.std.specs.Prelude.{◌<◌, ◌≤◌, ◌+◌, ◌^◌, ◌*◌, ◌≡◌, ◌⊎◌, ◌&&◌, ◌||◌, ◌∷◌, ◌++◌}
use Rattle.laws.specs.Prelude.{ℕ, suc, ◌∙◌, sym, ap, refl, ap₂, inl, inr, true, false, Bool, and-eq-true_iff}
use Rattle.laws.specs.Prelude.{List, [], map, zero-mul, suc-mul, le_trans, arith, eqb, leb, length, length-append, eqb-true, leb-true}
use Rattle.rules.specs.Limits.{cells_fit_of, most_table_sheet, most_read}
use Rattle.rules.specs.Lists.{range, all}
use Rattle.rules.specs.Sheets.Printed.{line, first_lines, printed_row, printed_rows, printed_table}
use Rattle.rules.specs.Sheets.SheetRules.{GoodNames, TableRules}
use Rattle.rules.specs.Sheets.Sheets.{Table, levels_at, ink_byte}
use Rattle.rules.specs.Text.{text, digit_byte}
use Rattle.laws.specs.Numbers.Decimals.{decimal_length}
use Rattle.laws.specs.Numbers.Levels.{levels_length}
use Rattle.laws.specs.Numbers.Sizes.{kept_size, every_size, at_size, bounded_at}
use Rattle.readback.specs.Readers.Judges.{name_parts}

-- ---- the parts of a sheet

-- the line of the names and `ink`: at most 8 bytes and a separator for each name
third_length : (names : List (List ℕ)) → GoodNames names → length (line (names ++ (text "ink" ∷ []))) ≤ 9 * length names + 4
unfolding line text
third_length [] g = omega arith
third_length (w ∷ []) g =
    let (l, _, _) = name_parts w g.0 in
    simp length-append (omega arith)
third_length (w ∷ v ∷ names) g =
    let (l, _, _) = name_parts w g.0 in
    let i = third_length (v ∷ names) g.2 in
    rw length-append (omega arith)

-- a row's line: two bytes for each level, and two for the ink
digits_length : (levels : List ℕ) (b : ℕ) → length (line (map (λ d. digit_byte d ∷ []) levels ++ ((b ∷ []) ∷ []))) ≡ 2 * length levels + 2
unfolding line
digits_length [] b = refl
digits_length (l ∷ []) b = refl
digits_length (l ∷ k ∷ levels) b = omega (arith, digits_length (k ∷ levels) b)

row_length : (m n p ink : ℕ) → length (printed_row m n p ink) ≡ 2 * n + 2
unfolding printed_row
row_length m n p ink = digits_length (levels_at m n p) (ink_byte m ink) ∙ ap (λ k. 2 * k + 2) (levels_length m n p)

-- all rows
rows_length : (m n p : ℕ) (inks : List ℕ) → length (printed_rows m n p inks) ≡ length inks * (2 * n + 2)
unfolding printed_rows
rows_length m n p [] = sym (zero-mul (2 * n + 2))
rows_length m n p (ink ∷ inks) = rw length-append (omega (arith, rows_length m n (suc p) inks, row_length m n p ink, suc-mul (length inks) (2 * n + 2)))

-- ---- the bound

-- an upper bound for a table sheet of m levels and n inputs: a fixed line (14), two values (5), the names and `ink`, the rows
bound : ℕ → ℕ → ℕ
bound m n = 23 + 9 * n + m ^ n * (2 * n + 2)

-- it is the sum of the parts
sheet_length : (t : Table) → TableRules t → length (printed_table t) ≤ bound t.header.levels t.header.inputs
unfolding printed_table first_lines line bound text
sheet_length t k =
    let h = t.header in
    let z = kept_size h k.header in
    let a = decimal_length 0 h.levels (omega arith) in
    let b = decimal_length 1 h.inputs (omega arith) in
    let c = third_length h.names k.header.names in
    simp (length-append, rows_length, k.count) (omega (arith, k.header.count))

-- no table sheet is longer than 106,627 bytes
pub table_length : (t : Table) → TableRules t → length (printed_table t) ≤ most_table_sheet
unfolding every_size all range bound cells_fit_of
table_length t kept = le_trans (sheet_length t kept) (bounded_at bound most_table_sheet refl _ _ (kept_size t.header kept.header))

-- ---- what a program reads

-- the bound is within what a program reads, or it is the one remaining size
read_test : ℕ → ℕ → Bool
read_test m n = leb (bound m n) most_read || (eqb m 2 && eqb n 12)

read_tested : every_size read_test ≡ true
unfolding every_size all range read_test bound cells_fit_of
read_tested = refl

-- "A table sheet of 2 with 12 is longer than the making program's 65,536 bytes" (document 02, K6), and no other is
pub table_longer : (t : Table) → TableRules t → t.header.levels ≡ 2 → t.header.inputs ≡ 12 → most_read < length (printed_table t)
unfolding printed_table
table_longer t k two twelve =
    let count : length t.inks ≡ 4_096 = k.count ∙ ap₂ ◌^◌ two twelve in
    let rows : length (printed_rows t.header.levels t.header.inputs 0 t.inks) ≡ 4_096 * (2 * 12 + 2) =
    rows_length t.header.levels t.header.inputs 0 t.inks ∙ ap₂ (λ i n. i * (2 * n + 2)) count twelve in
    simp length-append (omega arith)

pub table_within : (t : Table) → TableRules t → (length (printed_table t) ≤ most_read) ⊎ ((t.header.levels ≡ 2) × (t.header.inputs ≡ 12))
unfolding read_test
table_within t kept = go (leb (bound m n) most_read) refl (at_size read_test read_tested m n (kept_size t.header kept.header))
  where
    m : ℕ
    m = t.header.levels

    n : ℕ
    n = t.header.inputs

    go : (u : Bool) → leb (bound m n) most_read ≡ u → (u || (eqb m 2 && eqb n 12)) ≡ true → (length (printed_table t) ≤ most_read) ⊎ ((m ≡ 2) × (n ≡ 12))
    go true e _ = inl (le_trans (sheet_length t kept) (leb-true (bound m n) most_read e))
    go false _ h =
        let (i, j) = (and-eq-true_iff (eqb m 2) (eqb n 12)).0 h in
        inr (eqb-true m 2 i, eqb-true n 12 j)
