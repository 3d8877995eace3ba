-- `glyphs::rows::print_rows` meets its contract. The loop's invariant: the first y rows are written. Assumes nothing.
use Rattle.std.specs.Prelude.{◌≡◌, ◌+◌, ◌*◌}
use Rattle.laws.specs.Prelude.{arith}
use Rattle.glyphs.specs.Offsets.{span_of}
use Rattle.glyphs.specs.Frames.{glyph_part_is}
use Rattle.glyphs.specs.Rows.{rows_none, glyph_row_there, row_fits, row_length, rows_more}
use Rattle.glyphs.proofs.rows.print_rows.Goals as goal

pub loop-y-init : goal.loop-y-init
loop-y-init c = rows_none _ _ _ _ _

pub loop-y-preserved : goal.loop-y-preserved
loop-y-preserved c =
    let a = c.args in
    let l = c.loop-y in
    rows_more c.requires l.invariant c.loop-y-test.true (glyph_part_is (a.start + l.y * span_of a.width) a.width a.wires.now) _ c.copy.ensures.text

pub returns : goal.returns
returns c =
    let all : c.loop-y.y ≡ c.args.rows = omega (arith, c.loop-y-test.false) in
    rw all at c.loop-y.invariant.text

pub slice_bounds-copy-end : goal.slice_bounds-copy-end
slice_bounds-copy-end c = omega (arith, glyph_row_there c.requires c.loop-y.invariant c.loop-y-test.true)

pub copy-requires : goal.copy-requires
copy-requires c =
    let a = c.args in
    let l = c.loop-y in
    omega (
      arith,
      row_fits c.requires l.invariant c.loop-y-test.true,
      row_length c.requires l.invariant c.loop-y-test.true (glyph_part_is (a.start + l.y * span_of a.width) a.width a.wires.now),
    )
