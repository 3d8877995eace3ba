-- The rows of the new picture from the framed one, some at a time.
-- Assumes nothing.
use Rattle.laws.specs.Prelude.{ℕ, suc, zero, ◌∙◌, sym, ap, refl, subst, ap₂, List, zero-add, add-zero, mod-lt}
use Rattle.laws.specs.Prelude.{div-add-mod', div-lt_iff_lt-mul, mul_comm, mul_assoc, add-mul, zero-mul, mul-le-mul, mul-le-mul_left, mul-le-mul_right}
use Rattle.laws.specs.Prelude.{add_assoc, arith, length, get_or, drop, replicate, length-replicate, length-drop, length-take-le, get_or-take, ext_get_or, get_or-drop}
use Rattle.laws.specs.Prelude.{sets, length-sets, sets-eq}
use Rattle.std.specs.Prelude.{ℤ, pos, ◌+ℤ◌, ◌<◌, ◌≤◌, ◌+◌, ◌-◌, ◌*◌, ◌%◌, ◌/◌, ◌≡◌, ◌++◌}
use Rattle.rules.specs.Lists.{range, concat_map}
use Rattle.rules.specs.Calls.Answers.{written}
use Rattle.rules.specs.Calls.Glyphs.{level_at, across, down, levels_read}
use Rattle.rules.specs.Nets.Value.{value_with}
use Rattle.laws.specs.Lists.Concat.{concat_length, concat_append, concat_map_lem}
use Rattle.laws.specs.Lists.Pastes.{sets_append}
use Rattle.laws.specs.Calls.Glyphs.{IsSide, AreOffsets}
use Rattle.laws.specs.Nets.Pictures.{picture_level_below}
use Rattle.laws.specs.Lists.Ranges.{map_range, map_range_length, map_range_at, map_range_same, range_append, range_length}
use Rattle.nets.specs.declared.forms.Net.{Net}
use Rattle.nets.specs.Forms.{gates_of}
use Rattle.nets.specs.Room.{most_gates}
use Rattle.nets.specs.Sound.{Sound, sound_size, gates_count, net_levels_pos}
use Rattle.evaluation.specs.Values.{levels_in, ValuesReady, ValuesDone}
use Rattle.glyphs.specs.Offsets.{span_of, reach, start_of, moved, across_there, down_there, across_near, down_near}
use Rattle.glyphs.specs.Frames.{frame_size, GlyphEmpty, GlyphFramed}
use Rattle.glyphs.specs.Glyph.{cell_of, row_of, glyph_of, GlyphReady}
use Rattle.glyphs.specs.Rows.{row_below, row_at, rows_from, RowsReady}

-- what printing some rows requires
pub record StripReady (net : Net) (width height y rows : ℕ) (offsets : List ℤ) (wires out : List ℕ) : Type 0 where
  pub sound : Sound net
  pub wide : IsSide width
  pub high : IsSide height
  pub near : AreOffsets net.inputs offsets
  pub inside : y + rows ≤ height
  pub levels : (q : ℕ) → q < frame_size width height → get_or wires q 0 < net.levels
  pub room : frame_size width height + net.gates * (rows * span_of width) ≤ length wires
  pub output : height * width ≤ length out

-- the frame is unchanged, and the rows are written
pub record StripDone (net : Net) (width height y rows : ℕ) (offsets : List ℤ) (wires wires' out out' : List ℕ) : Type 0 where
  pub same : length wires' ≡ length wires
  pub kept : (q : ℕ) → q < frame_size width height → get_or wires' q 0 ≡ get_or wires q 0
  pub text : (picture : List ℕ) → GlyphFramed width height picture wires
      → out' ≡ sets out (y * width) (concat_map (row_of net width height picture offsets) (range y rows))

module _ {net : Net} {width height y rows : ℕ} {offsets : List ℤ} {wires out : List ℕ} (ready : StripReady net width height y rows offsets wires out)
    (starts : List ℕ) (each : (i : ℕ) → i < net.inputs → get_or starts i 0 ≡ start_of offsets (span_of width) y i) where
  -- each input's levels are in the frame
  inside : (i : ℕ) → i < net.inputs → get_or starts i 0 + rows * span_of width ≤ frame_size width height
  inside i low =
      let d = reach (down offsets i) in
      let near_d : d ≤ 4 = down_near net.inputs offsets ready.near i low in
      let all = row_below (y + d + rows) (height + 5) (span_of width) (omega (arith, ready.inside)) in
      omega (arith, each i low, across_near net.inputs offsets ready.near i low, all, add-mul (y + d) rows (span_of width))

  pub strip_values_ready : ValuesReady net starts (frame_size width height) (rows * span_of width) wires
  strip_values_ready =
      record { sound = ready.sound; inputs_there = inside; room = ready.room; levels = λ i p low h. ready.levels _ (omega (arith, inside i low)) }

  module _ {after : List ℕ} {start : ℕ} (done : ValuesDone net starts (frame_size width height) (rows * span_of width) wires after start) where
    pub strip_rows_ready : RowsReady after start width rows (y * width) out
    strip_rows_ready =
        let room : y * width + rows * width ≤ length out = omega (arith, ready.output, mul-le-mul_right width ready.inside, add-mul y rows width) in
        record { wide = ready.wide; few = omega (arith, ready.inside, ready.high.most); there = done.there; room = room }

    module _ (picture : List ℕ) (framed : GlyphFramed width height picture wires) where
      -- the level that input i reads for column x of row y + k
      read : (x k : ℕ) → x < width → k < rows → (i : ℕ) → i < net.inputs
          → get_or wires (get_or starts i 0 + (k * span_of width + x)) 0 ≡ level_at width height picture (pos x +ℤ across offsets i) (pos (y + k) +ℤ down offsets i)
      read x k h l i low =
          let a = reach (across offsets i) in
          let d = reach (down offsets i) in
          let are = ready.near in
          let place : get_or starts i 0 + (k * span_of width + x) ≡ (y + k + d) * span_of width + (x + a) =
          omega (arith, each i low, add-mul y d (span_of width), add-mul y k (span_of width), add-mul (y + k) d (span_of width)) in
          ap (λ (q : ℕ). get_or wires q 0) place
          ∙ framed (x + a) (y + k + d) (omega (arith, across_near net.inputs offsets are i low))
          (omega (arith, down_near net.inputs offsets are i low, ready.inside))
          ∙ ap₂ (level_at width height picture)
          (sym (unfold across in moved x (across offsets i) (are.near (2 * i) (across_there net.inputs offsets are i low))))
          (sym (unfold down in moved (y + k) (down offsets i) (are.near (2 * i + 1) (down_there net.inputs offsets are i low))))

      reads : (x k : ℕ) → x < width → k < rows
          → levels_in wires starts net.inputs (k * span_of width + x) ≡ levels_read net.inputs width height picture offsets x (y + k)
      unfolding levels_read
      reads x k h l = map_range_same _ _ 0 net.inputs (λ i _ low. read x k h l i (omega arith))

      row : (k : ℕ) → k < rows → row_at after start width k ≡ row_of net width height picture offsets (y + k)
      row k l =
          let past : k * span_of width + span_of width ≤ rows * span_of width = row_below k rows (span_of width) l in
          let cell : ℕ → ℕ = λ x. cell_of net width height picture offsets x (y + k) in
          let long : length (row_at after start width k) ≡ width =
          length-take-le width (drop (start + k * span_of width) after) (rw length-drop (omega (arith, done.there))) in
          ext_get_or 0 (row_at after start width k) (row_of net width height picture offsets (y + k))
          (long ∙ sym (map_range_length cell 0 width))
          (λ x m. let h : x < width = omega arith in
          get_or-take width (drop (start + k * span_of width) after) x 0 h ∙ get_or-drop (start + k * span_of width) after x 0
          ∙ ap (λ (q : ℕ). get_or after q 0) (add_assoc start (k * span_of width) x)
          ∙ done.values (k * span_of width + x) (omega arith)
          ∙ ap (value_with net.levels net.inputs (gates_of net)) (reads x k h l)
          ∙ sym (map_range_at cell 0 width x 0 h ∙ ap cell (zero-add x)))

      rows_are : rows_from after start width rows ≡ concat_map (row_of net width height picture offsets) (range y rows)
      rows_are =
          let new = row_of net width height picture offsets in
          sym (concat_map_lem (row_at after start width) (λ r. r) (range 0 rows))
          ∙ ap (concat_map (λ r. r)) (map_range_same _ (λ k. new (y + k)) 0 rows (λ k _ l. row k (omega arith)))
          ∙ concat_map_lem (λ k. new (y + k)) (λ r. r) (range 0 rows) ∙ sym (concat_map_lem (λ k. y + k) new (range 0 rows))
          ∙ ap (concat_map new) (map_range y 0 rows ∙ ap (λ (k : ℕ). range k rows) (add-zero y))

    pub strip_done : (then : List ℕ) → then ≡ sets out (y * width) (rows_from after start width rows)
        → StripDone net width height y rows offsets wires after out then
    strip_done then e =
        record { same = done.same; kept = done.kept; text = λ picture framed. e ∙ ap (sets out (y * width)) (rows_are picture framed) }

-- ---- the new picture, in one or two strips

-- what printing the first `top` rows and then the others requires of the work array
pub record HalvesReady (net : Net) (width height top : ℕ) (wires : List ℕ) : Type 0 where
  pub low : top ≤ height
  pub half : height - top ≤ top
  pub empty : GlyphEmpty wires
  pub room : (height + 5 + net.gates * top) * span_of width ≤ length wires

-- the most cells on a side of a small picture
abbrev pub few_side : ℕ
few_side = 16

zeros_at : (k q : ℕ) → ◌≡◌ {A = ℕ} (get_or (replicate k 0) q 0) 0
zeros_at zero q = refl
zeros_at (suc k) zero = refl
zeros_at (suc k) (suc q) = zeros_at k q

pub gates_most : (net : Net) → Sound net → net.gates ≤ most_gates
gates_most net sound = omega (arith, gates_count net sound, (sound_size net sound).inputs_most)

-- zeros with room for a frame and values in `lines` rows of the span of the width `most`
pub halves_ready : (net : Net) (width height top : ℕ) → top ≤ height → height - top ≤ top → (gates rows : ℕ) → net.gates ≤ gates → top ≤ rows
    → (most lines : ℕ) → width ≤ most → height + 5 + gates * rows ≤ lines → HalvesReady net width height top (replicate (lines * span_of most) 0)
halves_ready net width height top low half gates rows few short most lines narrow fits =
    let values : net.gates * top ≤ gates * rows = mul-le-mul few short in
    let all : height + 5 + net.gates * top ≤ lines = omega arith in
    let wide : span_of width ≤ span_of most = omega arith in
    record { low = low; half = half; empty = zeros_at (lines * span_of most); room = rw length-replicate (mul-le-mul all wide) }

module _ {net : Net} {width height : ℕ} {picture : List ℕ} {offsets : List ℤ} {out : List ℕ} (ready : GlyphReady net width height picture offsets out)
    {top : ℕ} {before : List ℕ} (halves : HalvesReady net width height top before) where
  abbrev rows_of : ℕ → ℕ → List ℕ
  rows_of from count = concat_map (row_of net width height picture offsets) (range from count)

  module _ (wires : List ℕ) (same : length wires ≡ length before) (framed : GlyphFramed width height picture wires) where
    -- every cell of the frame has a level
    levels : (q : ℕ) → q < frame_size width height → get_or wires q 0 < net.levels
    levels q h =
        let some : 0 < span_of width = omega arith in
        subst (λ (p : ℕ). get_or wires p 0 < net.levels) (div-add-mod' q (span_of width))
        (rw (framed (q % span_of width) (q / span_of width) (mod-lt q some) ((div-lt_iff_lt-mul some).1 h)) (picture_level_below net.levels width height picture
        ready.picture_is (net_levels_pos net ready.sound) _ _))

    pub half_ready : (y rows : ℕ) → y + rows ≤ height → rows ≤ top → (out' : List ℕ) → length out' ≡ length out
        → StripReady net width height y rows offsets wires out'
    half_ready y rows inside few out' long =
        let is = ready.picture_is in
        let all : net.gates * rows * span_of width ≤ net.gates * top * span_of width = mul-le-mul_right (span_of width) (mul-le-mul_left net.gates few) in
        let room : frame_size width height + net.gates * (rows * span_of width) ≤ length wires =
        omega (arith, same, halves.room, add-mul (height + 5) (net.gates * top) (span_of width), mul_assoc net.gates rows (span_of width), all) in
        let output : height * width ≤ length out' = omega (arith, long, mul_comm height width, ready.room) in
        record {
          sound = ready.sound;
          wide = is.across;
          high = is.along;
          near = ready.offsets_are;
          inside = inside;
          levels = levels;
          room = room;
          output = output;
        }

    -- after the first rows, the frame is still there
    module _ {wires' out' : List ℕ} (done : StripDone net width height 0 top offsets wires wires' out out') where
      pub still_framed : GlyphFramed width height picture wires'
      still_framed c r h l = done.kept (r * span_of width + c) (omega (arith, row_below r (height + 5) (span_of width) l)) ∙ framed c r h l

      first_rows : out' ≡ sets out 0 (rows_of 0 top)
      first_rows = done.text picture framed ∙ ap (λ (k : ℕ). sets out k (rows_of 0 top)) (zero-mul width)

      pub first_length : length out' ≡ length out
      first_length = ap length first_rows ∙ length-sets out 0 (rows_of 0 top)

      rows_long : (count : ℕ) → length (rows_of 0 count) ≡ count * width
      rows_long count =
          concat_length (row_of net width height picture offsets) width (λ y. map_range_length (λ x. cell_of net width height picture offsets x y) 0 width)
          (range 0 count)
          ∙ ap (λ (k : ℕ). k * width) (range_length 0 count)

      all_rows_lem : (then : List ℕ) → then ≡ sets out 0 (rows_of 0 height) → then ≡ written out (glyph_of net width height picture offsets)
      unfolding written
      all_rows_lem then e =
          e ∙ sets-eq (rows_of 0 height) out 0 (omega (arith, rows_long height, mul_comm height width, ready.room))
          ∙ ap (λ (k : ℕ). rows_of 0 height ++ drop k out) (zero-add (length (rows_of 0 height)))

      pub all_at_once : top ≡ height → out' ≡ written out (glyph_of net width height picture offsets)
      all_at_once e = all_rows_lem out' (first_rows ∙ ap (λ (k : ℕ). sets out 0 (rows_of 0 k)) e)

      pub both_halves : {wires'' out'' : List ℕ} → StripDone net width height top (height - top) offsets wires' wires'' out' out''
          → out'' ≡ written out (glyph_of net width height picture offsets)
      both_halves {out'' = out''} last =
          let rest = rows_of top (height - top) in
          let count : top + (height - top) ≡ height = omega (arith, halves.low) in
          let place : top * width ≡ 0 + length (rows_of 0 top) = omega (arith, rows_long top) in
          all_rows_lem out'' (last.text picture still_framed
          ∙ ap₂ (λ (l : List ℕ) (k : ℕ). sets l k rest) first_rows place
          ∙ sym (sets_append (rows_of 0 top) rest out 0)
          ∙ ap (sets out 0) (sym (concat_append (row_of net width height picture offsets) (range 0 top) (range top (height - top)))
          ∙ ap (concat_map (row_of net width height picture offsets))
          (ap (λ (k : ℕ). range 0 top ++ range k (height - top)) (sym (zero-add top)) ∙ sym (range_append 0 top (height - top)) ∙ ap (range 0) count)))
