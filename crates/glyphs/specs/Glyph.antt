-- The new picture for a net by value: each cell is the net's value at the levels that its offsets lead to.
-- Assumes nothing.
use Rattle.laws.specs.Prelude.{ℕ, List, map, length}
use Rattle.std.specs.Prelude.{ℤ, ◌≤◌, ◌*◌}
use Rattle.rules.specs.Lists.{range, concat_map}
use Rattle.rules.specs.Sheets.Sheets.{Gate}
use Rattle.rules.specs.Calls.Glyphs.{levels_read}
use Rattle.rules.specs.Nets.Value.{value_with}
use Rattle.laws.specs.Calls.Glyphs.{IsPicture, AreOffsets}
use Rattle.nets.specs.declared.forms.Net.{Net}
use Rattle.nets.specs.Forms.{gates_of}
use Rattle.nets.specs.Sound.{Sound}

-- the new picture of a gate list
abbrev pub glyph_by : ℕ → ℕ → List Gate → ℕ → ℕ → List ℕ → List ℤ → List ℕ
glyph_by m n gates width height picture offsets =
    concat_map (λ y. map (λ x. value_with m n gates (levels_read n width height picture offsets x y)) (range 0 width)) (range 0 height)

-- a new cell for a net by value, and all new cells
abbrev pub cell_of : Net → ℕ → ℕ → List ℕ → List ℤ → ℕ → ℕ → ℕ
cell_of net width height picture offsets x y =
    value_with net.levels net.inputs (gates_of net) (levels_read net.inputs width height picture offsets x y)

abbrev pub glyph_of : Net → ℕ → ℕ → List ℕ → List ℤ → List ℕ
glyph_of net width height picture offsets = glyph_by net.levels net.inputs (gates_of net) width height picture offsets

-- what printing requires
pub record GlyphReady (net : Net) (width height : ℕ) (picture : List ℕ) (offsets : List ℤ) (out : List ℕ) : Type 0 where
  pub sound : Sound net
  pub picture_is : IsPicture net.levels width height picture
  pub offsets_are : AreOffsets net.inputs offsets
  pub room : width * height ≤ length out

-- a row of the new picture
abbrev pub row_of : Net → ℕ → ℕ → List ℕ → List ℤ → ℕ → List ℕ
row_of net width height picture offsets y = map (λ x. cell_of net width height picture offsets x y) (range 0 width)
