-- Two gate lists that agree "in left and right throughout and in every table but the last" (document 02, K14), and what follows: they are one wiring,
-- every gate but the last has changed in both or in neither, and their sheets are the same bytes except for the last line's table field.
-- Assumes nothing.
use Rattle.std.specs.Prelude.{◌<◌, ◌-◌, ◌≡◌, ◌≢◌, ◌∷◌, ◌++◌}
use Rattle.laws.specs.Prelude.{ℕ, ◌∙◌, sym, ap, List, [], map, append_assoc, append-nil, arith, length, length-map}
use Rattle.laws.specs.Prelude.{get_or-append}
use Rattle.rules.specs.Calls.Keeping.{table_at, changed_gates}
use Rattle.rules.specs.Groups.Groups.{member}
use Rattle.rules.specs.Lists.{concat_map}
use Rattle.rules.specs.Sheets.Printed.{line, first_lines, printed_gate, printed_net}
use Rattle.rules.specs.Sheets.Sheets.{Header, Gate, reference_text}
use Rattle.rules.specs.Text.{space, newline, text, digit_byte}
use Rattle.laws.specs.Lists.Tests.{two_ways}
use Rattle.laws.specs.Lists.Concat.{map-append, concat_append}
use Rattle.laws.specs.Lists.Places.{length_snoc}
use Rattle.trees.specs.Keeping.ChangedGates.{changed_exactly}

-- the gate with another table
abbrev pub with_table : Gate → List ℕ → Gate
with_table g digits = record { left = g.left; right = g.right; digits = digits }

-- the gates before the last, and the last with its two tables
pub record ButLast (gates others : List Gate) : Type 0 where
  pub before : List Gate
  pub last : Gate
  pub digits : List ℕ
  pub ours : gates ≡ before ++ (last ∷ [])
  pub theirs : others ≡ before ++ (with_table last digits ∷ [])

module _ (gates others : List Gate) (but : ButLast gates others) where
  abbrev with_last_lem : Gate → List Gate
  with_last_lem g = but.before ++ (g ∷ [])

  -- what is the same for both forms of the last gate is the same for both lists
  by_last : {A : Type 0} (what : List Gate → A) → what (with_last_lem (with_table but.last but.digits)) ≡ what (with_last_lem but.last)
      → what others ≡ what gates
  by_last what same = ap what but.theirs ∙ same ∙ sym (ap what but.ours)

  -- "every table but the last"
  pub but_last_tables : (k : ℕ) → 0 < k → k < length gates → table_at others k ≡ table_at gates k
  but_last_tables k some early =
      let tables : List (List ℕ) = map (λ (g : Gate). g.digits) but.before in
      let early' : k - 1 < length tables = rw length-map (omega (arith, ap length but.ours, length_snoc but.before but.last)) in
      by_last (λ l. table_at l k) (simp map-append (get_or-append tables _ [] (k - 1) early' ∙ sym (get_or-append tables _ [] (k - 1) early')))

  -- "the gates whose table field differs from the old one": every gate but the last has changed in both or in neither
  pub but_last_changed : (old : List Gate) → length old ≡ length gates → (k : ℕ) → k ≢ length gates
      → member k (changed_gates old others) ≡ member k (changed_gates old gates)
  but_last_changed old count k not_last =
      two_ways _ _
      (λ e. let (some, within, differs) = (changed_exactly old others k).0 e in
      (changed_exactly old gates k).1 (some, within, λ is. differs (is ∙ sym (but_last_tables k some (omega arith)))))
      (λ e. let (some, within, differs) = (changed_exactly old gates k).0 e in
      (changed_exactly old others k).1 (some, within, λ is. differs (is ∙ but_last_tables k some (omega arith))))

-- ---- the sheets

-- two sheets that differ only in the last field
pub record ButLastField (sheet other field their_field : List ℕ) : Type 0 where
  pub front : List ℕ
  pub ours : sheet ≡ front ++ (field ++ (newline ∷ []))
  pub theirs : other ≡ front ++ (their_field ++ (newline ∷ []))

-- a gate line up to its table
line_front : List (List ℕ) → Gate → List ℕ
line_front names g = reference_text names g.left ++ (space ∷ (reference_text names g.right ++ (space ∷ [])))

gate_line_lem : (names : List (List ℕ)) (g : Gate) → printed_gate names g ≡ line_front names g ++ (map digit_byte g.digits ++ (newline ∷ []))
unfolding printed_gate line line_front
gate_line_lem names g = simp append_assoc

-- everything before the last line's table
module _ (header : Header) (before : List Gate) (g : Gate) where
  sheet_front : List ℕ
  sheet_front =
      (first_lines header header.names ++ (line (text "left" ∷ text "right" ∷ text "table" ∷ []) ++ concat_map (printed_gate header.names) before))
      ++ line_front header.names g

  sheet_is : printed_net (record { header = header; gates = before ++ (g ∷ []) }) ≡ sheet_front ++ (map digit_byte g.digits ++ (newline ∷ []))
  unfolding printed_net sheet_front concat_map
  sheet_is = simp (concat_append, gate_line_lem, append_assoc, append-nil)

-- "their gate lines agree in left and right throughout and in every table but the last", as bytes
pub but_last_printed : (header : Header) (gates others : List Gate) → (but : ButLast gates others)
    → ButLastField (printed_net (record { header = header; gates = gates })) (printed_net (record { header = header; gates = others }))
    (map digit_byte but.last.digits) (map digit_byte but.digits)
unfolding sheet_front line_front
but_last_printed header gates others but = record {
  front = sheet_front header but.before but.last;
  ours = ap (λ (l : List Gate). printed_net (record { header = header; gates = l })) but.ours ∙ sheet_is header but.before but.last;
  theirs =
      ap (λ (l : List Gate). printed_net (record { header = header; gates = l })) but.theirs
      ∙ sheet_is header but.before (with_table but.last but.digits);
}
