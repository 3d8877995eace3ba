-- A sheet's first three lines, as bytes. They determine its header: two accepted net sheets have the same first three lines exactly if
-- they have the same levels, inputs and names.
-- Assumes nothing.
use Rattle.std.specs.Prelude.{◌≡◌, ◌↔◌, ◌∷◌, ◌++◌}
use Rattle.laws.specs.Prelude.{ℕ, ◌∙◌, sym, ap, List, [], append_assoc, arith}
use Rattle.rules.specs.Calls.Answers.{accepted}
use Rattle.rules.specs.Sheets.Fields.{Read, read}
use Rattle.rules.specs.Sheets.Printed.{line, first_lines, printed_net}
use Rattle.rules.specs.Sheets.Reading.{read_net}
use Rattle.rules.specs.Sheets.SheetRules.{HeaderRules, NetRules}
use Rattle.rules.specs.Sheets.Sheets.{Header, Net, header_lines}
use Rattle.rules.specs.Text.{newline, text, decimal}
use Rattle.trees.specs.Trees.NetTables.{inputs_several}
use Rattle.readback.specs.Readers.Fields.{parts_newline}
use Rattle.readback.specs.Sheets.Header.{head_text, spells_header}
use Rattle.readback.specs.Sheets.Lines.{lines_up_to, lines_first, head_lines, head_fed, head_unbroken}
use Rattle.readback.specs.Nets.NetSheets.{line_ended}
use Rattle.readback.specs.Sheets.ReadBack.{net_accepted}

unfoldable pub three_lines : List ℕ → List ℕ
three_lines s = lines_up_to 3 s

head_line : (h : Header) → HeaderRules h → first_lines h h.names ≡ head_text newline h
unfolding first_lines head_text
head_line h kept =
    ap (λ (t : List ℕ). line (text "levels" ∷ text "inputs" ∷ []) ++ line (decimal h.levels ∷ decimal h.inputs ∷ []) ++ t)
    (line_ended h.names (omega (arith, kept.count, inputs_several h.inputs kept.inputs)))

same_read : (h k : Header) (place place' : ℕ) → ◌≡◌ {A = Read Header} (read h [] place) (read k [] place') → h ≡ k
same_read h k place place' e = cc

-- the first three lines of a printed net are its header's
pub three_lines_lem : (net : Net) → NetRules net → three_lines (printed_net net) ≡ first_lines net.header net.header.names
unfolding three_lines printed_net head_lines
three_lines_lem net kept =
    rw (append_assoc, head_fed net.header) (lines_first (head_lines net.header) _ (head_unbroken net.header kept.header))

-- equal lines have equal headers
header_said : (h k : Header) → HeaderRules h → HeaderRules k → first_lines h h.names ≡ first_lines k k.names → h ≡ k
header_said h k kept kept' e =
    let (place, d) = (spells_header newline parts_newline).back (h, kept) [] 0 tt in
    let (place', d') = (spells_header newline parts_newline).back (k, kept') [] 0 tt in
    let same : head_text newline h ≡ head_text newline k = sym (head_line h kept) ∙ e ∙ head_line k kept' in
    same_read h k place place' (sym d ∙ ap (λ (t : List ℕ). header_lines newline (t ++ []) 0) same ∙ d')

-- Two accepted net sheets have the same first three lines exactly if they have the same header.
pub same_lines : (s r : List ℕ) (net other : Net) → read_net s ≡ accepted net → read_net r ≡ accepted other
    → (three_lines s ≡ three_lines r) ↔ (net.header ≡ other.header)
same_lines s r net other e d =
    let (s_is, kept) = net_accepted s net e in
    let (r_is, kept') = net_accepted r other d in
    let lines_s : three_lines s ≡ first_lines net.header net.header.names = ap three_lines s_is ∙ three_lines_lem net kept in
    let lines_r : three_lines r ≡ first_lines other.header other.header.names = ap three_lines r_is ∙ three_lines_lem other kept' in (
      λ h. header_said net.header other.header kept.header kept'.header (sym lines_s ∙ h ∙ lines_r),
      λ h. lines_s ∙ ap (λ (k : Header). first_lines k k.names) h ∙ sym lines_r,
    )
