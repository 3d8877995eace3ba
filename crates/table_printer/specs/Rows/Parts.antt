-- A table sheet in the parts in which it is written.
-- Assumes nothing.
use Rattle.std.specs.Prelude.{◌≡◌, ◌∷◌, ◌++◌}
use Rattle.laws.specs.Prelude.{ℕ, List, [], map, append_assoc}
use Rattle.rules.specs.Text.{text, decimal}
use Rattle.rules.specs.Lists.{range}
use Rattle.rules.specs.Sheets.Printed.{line, first_lines, printed_rows, printed_table}
use Rattle.nets.specs.declared.forms.Header.{Header}
use Rattle.nets.specs.Forms.{name_in, header_of, table_in}
use Rattle.net_sheets.specs.Text.Lines.{spaced_from, line_last, spaced_all}

pub table_parts : (s : List ℕ) (h : Header) (inks : List ℕ) → printed_table (table_in s h inks)
    ≡ (line (text "levels" ∷ text "inputs" ∷ []) ++ line (decimal h.levels ∷ decimal h.inputs ∷ []))
    ++ (spaced_from (name_in s h) 0 h.inputs ++ (line (text "ink" ∷ []) ++ printed_rows h.levels h.inputs 0 inks))
unfolding printed_table first_lines header_of line
table_parts s h inks = rw (line_last (map (name_in s h) (range 0 h.inputs)) (text "ink"), spaced_all (name_in s h) h.inputs) (simp append_assoc)
