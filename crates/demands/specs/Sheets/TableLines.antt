-- A table sheet's first three lines, as bytes. They determine its header: two accepted table sheets have the same first three lines exactly if they
-- have the same levels, inputs and names.
-- Assumes nothing.
use Rattle.std.specs.Prelude.{◌<◌, ◌≡◌, ◌↔◌, ◌∷◌, ◌++◌}
use Rattle.laws.specs.Prelude.{ℕ, ◌∙◌, sym, ap, refl, true, List, [], append_assoc, append-nil, arith, length}
use Rattle.rules.specs.Calls.Answers.{accepted}
use Rattle.rules.specs.Lists.{all, concat_map}
use Rattle.rules.specs.Sheets.Fields.{Read, read}
use Rattle.rules.specs.Sheets.Printed.{first_lines, printed_table}
use Rattle.rules.specs.Sheets.Reading.{read_table}
use Rattle.rules.specs.Sheets.SheetRules.{HeaderRules, TableRules}
use Rattle.rules.specs.Sheets.Sheets.{Header, Table, header_lines}
use Rattle.rules.specs.Text.{space, newline, text, decimal}
use Rattle.laws.specs.Lists.Tests.{all_append}
use Rattle.trees.specs.Trees.NetTables.{inputs_several}
use Rattle.readback.specs.Readers.Fields.{parts_space}
use Rattle.readback.specs.Sheets.Header.{head_text, spells_header}
use Rattle.readback.specs.Tables.TableSheets.{table_line_last}
use Rattle.readback.specs.Sheets.Lines.{fed, in_line, Unbroken, lines_first, body, line_fed, head_lines, head_unbroken}
use Rattle.readback.specs.Sheets.ReadBack.{table_accepted}
use Rattle.demands.specs.Sheets.FirstLines.{three_lines}

-- the word after the last name on the line
abbrev ink_word : List ℕ
ink_word = text "ink"

-- ---- the lines

-- a line with one more word
body_snoc : (w : List ℕ) (ws : List (List ℕ)) (v : List ℕ) → body (w ∷ (ws ++ (v ∷ []))) ≡ body (w ∷ ws) ++ (space ∷ v)
unfolding body
body_snoc w [] v = refl
body_snoc w (x ∷ ws) v = ap (λ (rest : List ℕ). w ++ (space ∷ rest)) (body_snoc x ws v) ∙ sym (append_assoc w (space ∷ body (x ∷ ws)) (space ∷ v))

-- the first three lines of a table sheet
abbrev table_head : Header → List (List ℕ)
table_head h = body (text "levels" ∷ text "inputs" ∷ []) ∷ body (decimal h.levels ∷ decimal h.inputs ∷ []) ∷ body (h.names ++ (ink_word ∷ [])) ∷ []

-- none contains a line feed
ink_unbroken : (names : List (List ℕ)) → 0 < length names → all in_line (body names) ≡ true → all in_line (body (names ++ (ink_word ∷ []))) ≡ true
unfolding all in_line text space newline
ink_unbroken [] some good = absurd (omega arith)
ink_unbroken (w ∷ ws) some good = rw (body_snoc w ws ink_word) (all_append in_line (body (w ∷ ws)) (space ∷ ink_word) good refl)

table_unbroken : (h : Header) → HeaderRules h → Unbroken (table_head h)
unfolding head_lines
table_unbroken h kept =
    let lines = head_unbroken h kept in
    (lines.0, (lines.1.0, (ink_unbroken h.names (omega (arith, kept.count, inputs_several h.inputs kept.inputs)) lines.1.1.0, tt)))

table_fed : (h : Header) → first_lines h (h.names ++ (ink_word ∷ [])) ≡ concat_map fed (table_head h)
unfolding first_lines concat_map
table_fed h = simp (line_fed, append_assoc, append-nil)

-- so they are the first three of a printed table, ..
three_table_lines : (t : Table) → TableRules t → three_lines (printed_table t) ≡ first_lines t.header (t.header.names ++ (ink_word ∷ []))
unfolding three_lines printed_table
three_table_lines t kept = rw (table_fed t.header) (lines_first (table_head t.header) _ (table_unbroken t.header kept.header))

-- ---- the header that they determine

-- .. and the header's text, with the word after it
head_line : (h : Header) → first_lines h (h.names ++ (ink_word ∷ [])) ≡ head_text space h ++ (ink_word ++ (newline ∷ []))
unfolding first_lines head_text
head_line h = rw (table_line_last h.names ink_word) (simp append_assoc)

same_read : (h k : Header) (rest : List ℕ) (place place' : ℕ) → ◌≡◌ {A = Read Header} (read h rest place) (read k rest place') → h ≡ k
same_read h k rest place place' e = cc

header_said : (h k : Header) → HeaderRules h → HeaderRules k → first_lines h (h.names ++ (ink_word ∷ [])) ≡ first_lines k (k.names ++ (ink_word ∷ [])) → h ≡ k
header_said h k kept kept' e =
    let rest : List ℕ = ink_word ++ (newline ∷ []) in
    let (place, d) = (spells_header space parts_space).back (h, kept) rest 0 tt in
    let (place', d') = (spells_header space parts_space).back (k, kept') rest 0 tt in
    same_read h k rest place place' (sym d ∙ ap (λ (s : List ℕ). header_lines space s 0) (sym (head_line h) ∙ e ∙ head_line k) ∙ d')

-- Two accepted table sheets have the same first three lines exactly if they have the same header.
pub same_table_lines : (s r : List ℕ) (t u : Table) → read_table s ≡ accepted t → read_table r ≡ accepted u
    → (three_lines s ≡ three_lines r) ↔ (t.header ≡ u.header)
same_table_lines s r t u e d =
    let (s_is, kept) = table_accepted s t e in
    let (r_is, kept') = table_accepted r u d in
    let lines_s = ap three_lines s_is ∙ three_table_lines t kept in
    let lines_r = ap three_lines r_is ∙ three_table_lines u kept' in (
      λ same. header_said t.header u.header kept.header kept'.header (sym lines_s ∙ same ∙ lines_r),
      λ same. lines_s ∙ ap (λ (h : Header). first_lines h (h.names ++ (ink_word ∷ []))) same ∙ sym lines_r,
    )
