-- `glyphs::frame::frame` meets its contract. The loop's invariant: the first y rows are in the frame. Assumes nothing.
use Rattle.std.specs.Prelude.{◌<◌, ◌≤◌, ◌+◌, ◌*◌, ◌≡◌}
use Rattle.laws.specs.Prelude.{ℕ, ◌∙◌, ap, refl, mul-le-mul, arith, length, length-sets}
use Rattle.glyphs.specs.Offsets.{span_of, most_span}
use Rattle.glyphs.specs.Frames.{frame_size, framing_none, framing_all, glyph_part_is, row_there, row_room, framing_more}
use Rattle.glyphs.proofs.frame.frame.Goals as goal

pub loop-y-init : goal.loop-y-init
loop-y-init c = (refl, framing_none _ _ _ _ c.requires.3)

pub copy-requires : goal.copy-requires
copy-requires c =
    let a = c.args in
    let l = c.loop-y in
    let room : frame_size a.width a.height ≤ length l.wires = omega (arith, c.requires.4, l.invariant.0) in
    row_room _ _ a.picture.now c.requires.2 l.y c.loop-y-test.true _ (glyph_part_is (l.y * a.width) a.width a.picture.now) l.wires room

pub loop-y-preserved : goal.loop-y-preserved
loop-y-preserved c =
    let a = c.args in
    let l = c.loop-y in
    let room : frame_size a.width a.height ≤ length l.wires = omega (arith, c.requires.4, l.invariant.0) in (
      ap length c.copy.ensures.text ∙ simp length-sets l.invariant.0,
      framing_more _ _ _ c.requires.2 _ c.loop-y-test.true _ (glyph_part_is (l.y * a.width) a.width a.picture.now) _ room l.invariant.1 _ c.copy.ensures.text,
    )

pub returns : goal.returns
returns c =
    let all : c.loop-y.y ≡ c.args.height = omega (arith, c.loop-y-test.false) in
    framing_all _ _ _ _ (rw all at c.loop-y.invariant.1)

-- row y is within the picture
pub slice_bounds-copy-end : goal.slice_bounds-copy-end
slice_bounds-copy-end c = row_there c.args.width c.args.height c.args.picture.now c.requires.2 _ c.loop-y-test.true

-- the place of a row in the frame is small
place_small : (y width : ℕ) → y < 64 → span_of width ≤ most_span → (y + 2) * span_of width ≤ 66 * most_span
place_small y width few wide = let rows : y + 2 ≤ 66 = omega arith in mul-le-mul rows wide

pub overflow_mul-y : goal.overflow_mul-y
overflow_mul-y c = omega (arith, place_small c.loop-y.y c.args.width (omega (arith, c.requires.1.most)) (omega (arith, c.requires.0.most)))
