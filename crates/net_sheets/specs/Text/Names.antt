-- A header's names: what printing them requires, and the line printed.
-- Assumes nothing.
use Rattle.std.specs.Prelude.{◌<◌, ◌≤◌, ◌-◌, ◌≡◌, ◌∷◌, ◌++◌}
use Rattle.laws.specs.Prelude.{ℕ, suc, ◌∙◌, ap, List, [], map, arith}
use Rattle.rules.specs.Lists.{range}
use Rattle.rules.specs.Limits.{most_inputs}
use Rattle.rules.specs.Text.{newline}
use Rattle.rules.specs.Sheets.Printed.{line}
use Rattle.nets.specs.declared.forms.Header.{Header}
use Rattle.nets.specs.Forms.{name_in, names_in, NamesHeld, header_of}
use Rattle.net_sheets.specs.Text.Lines.{spaced_from, line_from_lem}

-- there are names, no more of them than the form has room for, and each is a part of the sheet
pub record NamesInside (s : List ℕ) (h : Header) : Type 0 where
  pub some : 0 < h.inputs
  pub count : h.inputs ≤ most_inputs
  pub inside : NamesHeld s h h.inputs

module _ (s : List ℕ) (h : Header) where
  pub names_line : 0 < h.inputs
      → line (names_in s h) ≡ spaced_from (name_in s h) 0 (h.inputs - 1) ++ (name_in s h (h.inputs - 1) ++ (newline ∷ []))
  unfolding header_of
  names_line l =
      let e : h.inputs ≡ suc (h.inputs - 1) = omega arith in
      ap (λ (n : ℕ). line (map (name_in s h) (range 0 n))) e ∙ line_from_lem (name_in s h) (h.inputs - 1)
