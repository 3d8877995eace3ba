-- The framed picture, row by row.
-- Assumes nothing.
use Rattle.laws.specs.Prelude.{ℕ, suc, ◌∙◌, sym, ap, subst⁻¹, List, mul_comm, mul-le-mul_right, dec_lt, dec_le, arith, length}
use Rattle.laws.specs.Prelude.{get_or, take, drop, length-drop, length-take-le, get_or-take, get_or-drop, sets, lt-ltb, le-ltb}
use Rattle.std.specs.Prelude.{ℤ, pos, negsuc, ◌<◌, ◌≤◌, ◌+◌, ◌-◌, ◌*◌, ◌≡◌}
use Rattle.std.proofs.Math.IntN.{sub_ℕ}
use Rattle.rules.specs.Calls.Glyphs.{level_at}
use Rattle.laws.specs.Lists.Pastes.{sets_before, sets_behind, sets_there}
use Rattle.laws.specs.Nets.Pictures.{level_in, level_across, level_along, level_left, level_above}
use Rattle.glyphs.specs.Offsets.{span_of}
use Rattle.glyphs.specs.Rows.{row_below}

-- the cells of the framed picture
abbrev pub frame_size : ℕ → ℕ → ℕ
frame_size width height = (height + 5) * span_of width

-- no picture yet
abbrev pub GlyphEmpty : List ℕ → Type 0
GlyphEmpty wires = (q : ℕ) → get_or wires q 0 ≡ 0

-- column c and row r, counted from two before the picture's first, hold the picture's level
abbrev pub GlyphFramed : ℕ → ℕ → List ℕ → List ℕ → Type 0
GlyphFramed width height picture wires = (c r : ℕ) → c < span_of width → r < height + 5
    → get_or wires (r * span_of width + c) 0 ≡ level_at width height picture (sub_ℕ c 2) (sub_ℕ r 2)

-- so do the first `rows` rows, and the others are zeros
pub record GlyphFraming (width height : ℕ) (picture : List ℕ) (rows : ℕ) (wires : List ℕ) : Type 0 where
  pub level : (c r : ℕ) → c < span_of width → r < rows → get_or wires (r * span_of width + c) 0 ≡ level_at width height picture (sub_ℕ c 2) (sub_ℕ r 2)
  pub zeros : (q : ℕ) → rows * span_of width ≤ q → get_or wires q 0 ≡ 0

-- a place at the picture's first cell or after it, ..
place_in : (c : ℕ) → 2 ≤ c → sub_ℕ c 2 ≡ pos (c - 2)
place_in c h = rw (le-ltb c 2 h)

-- .. and one before the first cell
place_out : (c : ℕ) → c < 2 → sub_ℕ c 2 ≡ negsuc (1 - c)
place_out c h = rw (lt-ltb c 2 h) (ap negsuc (let e : 2 - suc c ≡ 1 - c = omega arith in e))

-- a slice of a list by its two ends
pub glyph_part_is : (from width : ℕ) (l : List ℕ) → take (from + width - from) (drop from l) ≡ take width (drop from l)
glyph_part_is from width l = ap (λ (k : ℕ). take k (drop from l)) (let e : from + width - from ≡ width = omega arith in e)

pub framing_none : (width height : ℕ) (picture wires : List ℕ) → GlyphEmpty wires → GlyphFraming width height picture 2 wires
framing_none width height picture wires empty =
    record {
      level = λ c r h low. empty (r * span_of width + c) ∙ sym (rw (place_out r low) (level_above width height picture (sub_ℕ c 2) (1 - r)));
      zeros = λ q h. empty q;
    }

pub framing_all : (width height : ℕ) (picture wires : List ℕ) → GlyphFraming width height picture (height + 2) wires → GlyphFramed width height picture wires
framing_all width height picture wires framed c r h _ = go (dec_lt r (height + 2))
  where
    go : Dec (r < height + 2) → get_or wires (r * span_of width + c) 0 ≡ level_at width height picture (sub_ℕ c 2) (sub_ℕ r 2)
    go (yes above) = framed.level c r h above
    go (no below) =
        let past : height + 2 ≤ r = omega arith in
        framed.zeros (r * span_of width + c) (omega (arith, mul-le-mul_right (span_of width) past))
        ∙ sym (rw (place_in r (omega arith)) (level_along width height picture (sub_ℕ c 2) (r - 2) (omega arith)))

-- one more row

module _ (width height : ℕ) (picture : List ℕ) (count : length picture ≡ width * height) (y : ℕ) (turn : y < height) where
  abbrev span : ℕ
  span = span_of width

  -- the place where row y of the picture goes
  abbrev row_place : ℕ
  row_place = (y + 2) * span + 2

  -- row y is within the picture
  pub row_there : y * width + width ≤ length picture
  row_there = rw (count, mul_comm width height) (row_below y height width turn)

  module _ (text : List ℕ) (is : text ≡ take width (drop (y * width) picture)) (wires : List ℕ) (room : frame_size width height ≤ length wires) where
    text_length : length text ≡ width
    text_length = ap length is ∙ length-take-le width (drop (y * width) picture) (rw length-drop (omega (arith, row_there)))

    abbrev after : List ℕ
    after = sets wires row_place text

    pub row_room : row_place + length text ≤ length wires
    row_room = omega (arith, text_length, room, row_below (y + 2) (height + 5) span (omega arith))

    pub framing_more : GlyphFraming width height picture (y + 2) wires → (then : List ℕ) → then ≡ sets wires row_place text
        → GlyphFraming width height picture (y + 1 + 2) then
    framing_more framed then e =
        subst⁻¹ (GlyphFraming width height picture (y + 1 + 2)) e (record {
          level = λ c r h low. cell c r h low (dec_lt r (y + 2));
          zeros = λ q h. sets_behind text wires row_place q 0 (omega (arith, text_length, next)) ∙ framed.zeros q (omega (arith, next));
        })
      where
        next : (y + 2) * span + span ≤ (y + 1 + 2) * span
        next = row_below (y + 2) (y + 1 + 2) span (omega arith)

        -- a cell of row y
        columns : (c : ℕ) → c < span → Dec (2 ≤ c) → Dec (c < width + 2) → get_or after ((y + 2) * span + c) 0 ≡ level_at width height picture (sub_ℕ c 2) (pos y)
        columns c h (yes left) (yes right) =
            let low : c - 2 < width = omega arith in
            ap (λ (q : ℕ). get_or after q 0) (let place : (y + 2) * span + c ≡ row_place + (c - 2) = omega arith in place)
            ∙ sets_there text wires row_place (c - 2) 0 (omega (arith, text_length)) row_room
            ∙ ap (λ (t : List ℕ). get_or t (c - 2) 0) is ∙ get_or-take width (drop (y * width) picture) (c - 2) 0 low ∙ get_or-drop (y * width) picture (c - 2) 0
            ∙ sym (level_in width height picture (c - 2) y low turn)
            ∙ ap (λ (x : ℤ). level_at width height picture x (pos y)) (sym (place_in c left))
        columns c h (no left) right =
            let before_first : c < 2 = omega arith in
            sets_before text wires row_place ((y + 2) * span + c) 0 (omega arith) ∙ framed.zeros _ (omega arith)
            ∙ rw (place_out c before_first) (sym (level_left width height picture (1 - c) (pos y)))
        columns c h (yes left) (no right) =
            sets_behind text wires row_place ((y + 2) * span + c) 0 (omega (arith, text_length)) ∙ framed.zeros _ (omega arith)
            ∙ rw (place_in c left) (sym (level_across width height picture (c - 2) (pos y) (omega arith)))

        cell : (c r : ℕ) → c < span → r < y + 1 + 2 → Dec (r < y + 2) → get_or after (r * span + c) 0 ≡ level_at width height picture (sub_ℕ c 2) (sub_ℕ r 2)
        cell c r h low (yes above) =
            sets_before text wires row_place (r * span + c) 0 (omega (arith, row_below r (y + 2) span above)) ∙ framed.level c r h above
        cell c r h low (no below) =
            let last : r ≡ y + 2 = omega arith in
            let here : r - 2 ≡ y = omega arith in
            rw (place_in r (omega arith), here, last) (columns c h (dec_le 2 c) (dec_lt c (width + 2)))
