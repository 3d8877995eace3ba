-- The first three lines of a sheet.
-- Assumes nothing.
use Rattle.std.specs.Prelude.{◌≡◌, ◌∷◌, ◌++◌}
use Rattle.laws.specs.Prelude.{ℕ, sym, refl, true, List, [], append_assoc, append-nil}
use Rattle.rules.specs.Lists.{all, same}
use Rattle.rules.specs.Sheets.Fields.{is_separator}
use Rattle.rules.specs.Sheets.Printed.{line}
use Rattle.rules.specs.Sheets.SheetRules.{HeaderRules}
use Rattle.rules.specs.Sheets.Sheets.{Header, header_lines, header_lines_in}
use Rattle.rules.specs.Text.{space, newline, text, decimal}
use Rattle.readback.specs.Readers.Spells.{Spells, spells_give, spells_then, spells_as}
use Rattle.readback.specs.Readers.Fields.{plain, is_word, spells_field, judges_word}
use Rattle.readback.specs.Readers.Judges.{judges_levels, judges_inputs}
use Rattle.laws.specs.Lists.Fresh.{fresh_first}
use Rattle.readback.specs.Readers.Names.{ended, spells_names}

-- two lines, and the names with `last` after the last one
unfoldable pub head_text : ℕ → Header → List ℕ
head_text last h = line (text "levels" ∷ text "inputs" ∷ []) ++ line (decimal h.levels ∷ decimal h.inputs ∷ []) ++ ended last h.names

-- the same field by field
head_text_lem : (last m n : ℕ) (names : List (List ℕ))
    → text "levels" ++ space ∷ [] ++ (text "inputs" ++ newline ∷ []
    ++ (decimal m ++ space ∷ [] ++ (decimal n ++ newline ∷ [] ++ (ended last names ++ []))))
    ≡ head_text last (record { levels = m; inputs = n; names = names })
unfolding head_text line
head_text_lem last m n names = simp (append_assoc, append-nil)

-- the first three lines spell the headers that follow the rules
pub spells_header : (last : ℕ) → is_separator last ≡ true
    → Spells (header_lines last) ((h : Header) × HeaderRules h) (λ x. x.0) (λ x. head_text last x.0)
unfolding header_lines_in plain is_word all text is_separator space newline
spells_header last h = spells_as
    (spells_then _ (spells_field space refl (judges_word "levels" refl)) (λ _.
    spells_then _ (spells_field newline refl (judges_word "inputs" refl)) (λ _.
    spells_then _ (spells_field space refl judges_levels) (λ m.
    spells_then _ (spells_field newline refl (judges_inputs m.0)) (λ n.
    spells_then _ (spells_names last h n.0 []) (λ names. spells_give (record { levels = m.0; inputs = n.0; names = names.0 })))))))
    (λ (_, (_, ((m, f), ((n, g, c), ((names, l, (k, _)), _))))). (
      (record { levels = m; inputs = n; names = names }, record { levels = f; inputs = g; cells = c; count = l; names = k }),
      refl,
      head_text_lem last m n names,
    ))
    (λ (r, k). (
      (tt, (tt, ((r.levels, k.levels), ((r.inputs, k.inputs, k.cells), ((r.names, k.count, (k.names, fresh_first same r.names)), tt))))),
      refl,
      sym (head_text_lem last r.levels r.inputs r.names),
    ))
