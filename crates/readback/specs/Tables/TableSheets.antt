-- Table sheets: what the reader of a table sheet spells.
-- Assumes nothing.
use Rattle.std.specs.Prelude.{◌≤◌, ◌^◌, ◌≡◌, ◌∷◌, ◌++◌}
use Rattle.laws.specs.Prelude.{ℕ, suc, zero, sym, refl, List, [], map, append_assoc, append-nil, arith, length}
use Rattle.rules.specs.Lists.{all}
use Rattle.rules.specs.Sheets.Fields.{◌>>=◌, is_separator, field}
use Rattle.rules.specs.Sheets.Printed.{line, first_lines, printed_row, printed_rows, printed_table}
use Rattle.rules.specs.Sheets.SheetRules.{TableRules}
use Rattle.rules.specs.Sheets.Sheets.{Header, Table, levels_at, level_fields, ink_field, ink_byte, row_lines, table_sheet}
use Rattle.rules.specs.Text.{space, newline, text, digit_byte}
use Rattle.laws.specs.Lists.Bounds.{Below, below_at, at_below}
use Rattle.readback.specs.Readers.Spells.{Spells, SpellsTo, spells_give, spells_then, spells_as}
use Rattle.readback.specs.Readers.Collects.{Collects, collects_none, collects_more, then_then}
use Rattle.readback.specs.Readers.Fields.{plain, is_word, parts_space, parts_newline, spells_field, judges_word, Ended, spells_end}
use Rattle.readback.specs.Readers.Judges.{judges_level, judges_ink}
use Rattle.readback.specs.Readers.Names.{ended, ended_one, ended_more}
use Rattle.readback.specs.Sheets.Header.{head_text, spells_header}

-- words with a space after each
ended_space : (w : List ℕ) (ws : List (List ℕ)) → w ++ space ∷ [] ++ ended space ws ≡ ended space (w ∷ ws)
ended_space w [] = ended_one space w [] refl
ended_space w (v ∷ ws) = ended_more space (length ws) w (v ∷ ws) refl

-- one word, with others and the last after it
line_more : (w : List ℕ) (ws : List (List ℕ)) (v : List ℕ) → line (w ∷ (ws ++ (v ∷ []))) ≡ w ++ space ∷ line (ws ++ (v ∷ []))
unfolding line
line_more w [] v = refl
line_more w (x ∷ ws) v = refl

-- a line's words, each with a space after it, then the last
pub table_line_last : (ws : List (List ℕ)) (v : List ℕ) → line (ws ++ (v ∷ [])) ≡ ended space ws ++ (v ++ newline ∷ [])
table_line_last [] v = unfold line ended in refl
table_line_last (w ∷ ws) v = rw (line_more w ws v, table_line_last ws v, ← ended_space w ws) (simp append_assoc)

-- ---- rows

-- some levels' bytes, as words
abbrev digit_words : List ℕ → List (List ℕ)
digit_words ls = map (λ l. digit_byte l ∷ []) ls

-- a row's levels
spells_levels : (ls : List ℕ) → Spells (level_fields ls) (Unit {0}) (λ _. tt) (λ _. ended space (digit_words ls))
unfolding level_fields
spells_levels [] = unfold ended in spells_give tt
spells_levels (l ∷ ls) = spells_as (spells_then _ (spells_field space parts_space (judges_level l)) (λ _. spells_levels ls))
    (λ _. (tt, refl, ended_space (digit_byte l ∷ []) (digit_words ls))) (λ _. ((tt, tt), refl, sym (ended_space (digit_byte l ∷ []) (digit_words ls))))

-- the print of a row, its levels and its ink
row_text_lem : (m n p ink : ℕ) → ended space (digit_words (levels_at m n p)) ++ (ink_byte m ink ∷ newline ∷ []) ≡ printed_row m n p ink
unfolding printed_row
row_text_lem m n p ink = sym (table_line_last (digit_words (levels_at m n p)) (ink_byte m ink ∷ []))

spells_row : (m n p : ℕ)
    → Spells (level_fields (levels_at m n p) >>= λ _. field (ink_field m) newline) ((ink : ℕ) × (ink ≤ m)) (λ x. x.0) (λ x. printed_row m n p x.0)
spells_row m n p = spells_as (spells_then _ (spells_levels (levels_at m n p)) (λ _. spells_field newline parts_newline (judges_ink m)))
    (λ (_, x). (x, refl, row_text_lem m n p x.0)) (λ x. ((tt, x), refl, sym (row_text_lem m n p x.0)))

spells_rows : (m n count p : ℕ) (earlier : List ℕ) → Collects (row_lines m n p count earlier) earlier count (Below (suc m)) (printed_rows m n p)
unfolding row_lines printed_rows
spells_rows m n zero p earlier = collects_none earlier (Below (suc m)) (printed_rows m n p) tt refl
spells_rows m n (suc count) p earlier =
    rw (← then_then (level_fields (levels_at m n p)) (λ _. field (ink_field m) newline) (λ ink. row_lines m n (suc p) count (earlier ++ (ink ∷ []))))
    (collects_more _ earlier count (λ ink. ink ≤ m) (λ _. Below (suc m)) (Below (suc m)) (printed_row m n p) (printed_rows m n (suc p)) (printed_rows m n p)
    (spells_row m n p) (λ ink. spells_rows m n count (suc p) (earlier ++ (ink ∷ [])))
    (λ ink inks. (λ (h, k). (omega arith, k), λ (h, k). (omega arith, k))) (λ ink inks l. refl))

-- ---- the sheet

-- the print of a table, field by field
table_text : (h : Header) (inks : List ℕ)
    → head_text space h ++ (text "ink" ++ newline ∷ [] ++ (printed_rows h.levels h.inputs 0 inks ++ []))
    ≡ printed_table (record { header = h; inks = inks })
unfolding head_text printed_table first_lines
table_text h inks = rw (table_line_last h.names (text "ink")) (simp (append_assoc, append-nil))

-- the reader of table sheets spells the tables that follow the rules
pub spells_table : SpellsTo Ended table_sheet ((t : Table) × TableRules t) (λ x. x.0) (λ x. printed_table x.0)
unfolding table_sheet plain is_word all text is_separator space newline
spells_table = spells_as
    (spells_then _ (spells_header space refl) (λ (h, k).
    spells_then _ (spells_field newline refl (judges_word "ink" refl)) (λ _.
    spells_then _ (spells_rows h.levels h.inputs (h.levels ^ h.inputs) 0 []) (λ inks. spells_end (record { header = h; inks = inks.0 })))))
    (λ ((h, k), (_, ((inks, l, b), _))). (
      (record { header = h; inks = inks }, record { header = k; count = l; within = λ k i. omega (arith, below_at (suc h.levels) inks b k i) }),
      refl,
      table_text h inks,
    ))
    (λ (t, k). (
      (
        (t.header, k.header),
        (tt, ((t.inks, k.count, at_below (suc t.header.levels) t.inks (λ p i. omega (arith, k.within p i))), tt)),
      ),
      refl,
      sym (table_text t.header t.inks),
    ))
