-- Document 02, K11: the glyph that a net prints from a picture. The call's answer, and what its output holds afterwards.
-- Assumes nothing.
use Rattle.std.specs.Prelude.{ℕ, ◌+◌, ◌*◌, Bool, true, false, ◌&&◌, List, map, length, get_or, ℤ, pos, negsuc, ◌+ℤ◌, nat_abs, eqb, leb, ltb}
use Rattle.rules.specs.Lists.{range, all, concat_map}
use Rattle.rules.specs.Sheets.Sheets.{Net}
use Rattle.rules.specs.Nets.Value.{value_with}
use Rattle.rules.specs.Calls.Answers.{Answer, accepted, refused, written}
use Rattle.rules.specs.Sheets.Reading.{read_net}
use Rattle.rules.specs.Calls.TableWriting.{Written}

-- "1 to 64 cells a side"
abbrev pub most_side : ℕ
most_side = 64

-- "an offset across and down from −2 to 2"
abbrev pub most_offset : ℕ
most_offset = 2

-- ---- the new picture

-- The level of the old cell in column x and row y, each counted from 0: "a picture of width times height cells, row by row"; "outside the picture
-- the level is 0".
unfoldable pub level_at : ℕ → ℕ → List ℕ → ℤ → ℤ → ℕ
level_at width height picture (pos x) (pos y) = elim (ltb x width && ltb y height) [ true ↦ get_or picture (y * width + x) 0 | false ↦ 0 ]
level_at width height picture (pos x) (negsuc y) = 0
level_at width height picture (negsuc x) y = 0

-- "for each input an offset across and down": two numbers for each input, in the order of the inputs
unfoldable pub across : List ℤ → ℕ → ℤ
across offsets i = get_or offsets (2 * i) (pos 0)

unfoldable pub down : List ℤ → ℕ → ℤ
down offsets i = get_or offsets (2 * i + 1) (pos 0)

-- "input i read from the old cell at its offset": the levels of all n inputs, for the new cell in column x and row y
unfoldable pub levels_read : ℕ → ℕ → ℕ → List ℕ → List ℤ → ℕ → ℕ → List ℕ
levels_read n width height picture offsets x y =
    map (λ i. level_at width height picture (pos x +ℤ across offsets i) (pos y +ℤ down offsets i)) (range 0 n)

-- "Each cell of the new picture is the net's value with input i read from the old cell at its offset"
unfoldable pub new_cell : Net → ℕ → ℕ → List ℕ → List ℤ → ℕ → ℕ → ℕ
new_cell net width height picture offsets x y =
    let n = net.header.inputs in
    value_with net.header.levels n net.gates (levels_read n width height picture offsets x y)

-- the new picture, row by row
unfoldable pub glyph : Net → ℕ → ℕ → List ℕ → List ℤ → List ℕ
glyph net width height picture offsets =
    concat_map (λ y. map (λ x. new_cell net width height picture offsets x y) (range 0 width)) (range 0 height)

-- ---- what is refused

-- "1 to 64 cells a side"
unfoldable pub side_fits : ℕ → Bool
side_fits side = leb 1 side && leb side most_side

-- 24: "side, cell count or a cell's level wrong"
unfoldable pub picture_fits : ℕ → ℕ → ℕ → List ℕ → Bool
picture_fits m width height picture =
    side_fits width && side_fits height && eqb (length picture) (width * height) && all (λ l. ltb l m) picture

-- 25: "an offset missing, extra or too far"
unfoldable pub offsets_fit : ℕ → List ℤ → Bool
offsets_fit n offsets = eqb (length offsets) (2 * n) && all (λ o. leb (nat_abs o) most_offset) offsets

-- "judged in that order after the net sheet and before 15, place 0"; the place of 15 is the length needed
unfoldable pub glyph_judged : ℕ → ℕ → ℕ → ℕ → List ℕ → List ℤ → List ℕ → Answer (Unit {0})
glyph_judged m n width height picture offsets output =
    elim (picture_fits m width height picture) [
      | false ↦ refused 24 0
      | true ↦ elim (offsets_fit n offsets) [
        | false ↦ refused 25 0
        | true ↦ elim (ltb (length output) (width * height)) [ true ↦ refused 15 (width * height) | false ↦ accepted tt ]
      ]
    ]

-- ---- the call

-- It returns the number of cells written to the front of the output. A refusal leaves the output unchanged.
unfoldable pub glyph_into : Net → ℕ → ℕ → List ℕ → List ℤ → List ℕ → Written
glyph_into net width height picture offsets output =
    elim (glyph_judged net.header.levels net.header.inputs width height picture offsets output) [
      | refused number place ↦ record { answer = refused number place; output = output }
      | accepted fits ↦ record { answer = accepted (width * height); output = written output (glyph net width height picture offsets) }
    ]

-- "It takes a picture .. , a net sheet, and for each input an offset"
unfoldable pub glyph_call : List ℕ → ℕ → ℕ → List ℕ → List ℤ → List ℕ → Written
glyph_call sheet width height picture offsets output =
    elim (read_net sheet) [
      | refused number place ↦ record { answer = refused number place; output = output }
      | accepted net ↦ glyph_into net width height picture offsets output
    ]

-- all of this file computes
unfoldable pub computing : Unit {0}
unfolding level_at across down levels_read new_cell glyph side_fits picture_fits offsets_fit glyph_judged glyph_into glyph_call
computing = tt
