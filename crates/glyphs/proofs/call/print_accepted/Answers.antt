-- `glyphs::call::print_accepted` meets its contract: it tests the picture, the offsets and the output, then prints the glyph.
-- Assumes nothing.
use Rattle.std.specs.Prelude.{◌≡◌}
use Rattle.laws.specs.Prelude.{◌∙◌, sym, true, arith}
use Rattle.rules.specs.Calls.Glyphs.{picture_fits, offsets_fit}
use Rattle.nets.specs.Sound.{sound_size}
use Rattle.accepted.specs.Taken.{sound}
use Rattle.glyphs.specs.Calls.{bad_picture, few_cells_lem, bad_offsets, output_short, glyph_ready, output_written}
use Rattle.glyphs.proofs.call.print_accepted.Goals as goal

pub returns-then-not-picture_fits : goal.returns-then-not-picture_fits
returns-then-not-picture_fits c = bad_picture _ _ _ c.requires _ _ _ _ _ (sym c.picture_fits.ensures ∙ c.if-not-picture_fits.true)

pub offsets_fit-requires : goal.offsets_fit-requires
offsets_fit-requires c = (sound_size _ (sound _ _ _ c.requires)).inputs_most

pub returns-then-not-offsets_fit : goal.returns-then-not-offsets_fit
returns-then-not-offsets_fit c =
    let good : picture_fits c.args.net.levels c.args.width c.args.height c.args.picture.now ≡ true = sym c.picture_fits.ensures ∙ c.if-not-picture_fits.false in
    bad_offsets _ _ _ c.requires _ _ _ _ _ good (sym c.offsets_fit.ensures ∙ c.if-not-offsets_fit.true)

pub overflow_mul-need : goal.overflow_mul-need
overflow_mul-need c =
    let good : picture_fits c.args.net.levels c.args.width c.args.height c.args.picture.now ≡ true = sym c.picture_fits.ensures ∙ c.if-not-picture_fits.false in
    omega (
      arith,
      few_cells_lem _ _ _ c.requires c.args.width c.args.height c.args.picture.now c.args.offsets.now
          c.args.out.now good,
    )

pub returns-then-out-need : goal.returns-then-out-need
returns-then-out-need c =
    let good : picture_fits c.args.net.levels c.args.width c.args.height c.args.picture.now ≡ true = sym c.picture_fits.ensures ∙ c.if-not-picture_fits.false in
    let near : offsets_fit c.args.net.inputs c.args.offsets.now ≡ true = sym c.offsets_fit.ensures ∙ c.if-not-offsets_fit.false in
    output_short _ _ _ c.requires _ _ _ _ _ good near c.if-out-need.true

pub print_glyph-requires : goal.print_glyph-requires
print_glyph-requires c =
    let good : picture_fits c.args.net.levels c.args.width c.args.height c.args.picture.now ≡ true = sym c.picture_fits.ensures ∙ c.if-not-picture_fits.false in
    let near : offsets_fit c.args.net.inputs c.args.offsets.now ≡ true = sym c.offsets_fit.ensures ∙ c.if-not-offsets_fit.false in
    glyph_ready _ _ _ c.requires _ _ _ _ _ good near c.if-out-need.false

pub returns : goal.returns
returns c =
    let good : picture_fits c.args.net.levels c.args.width c.args.height c.args.picture.now ≡ true = sym c.picture_fits.ensures ∙ c.if-not-picture_fits.false in
    let near : offsets_fit c.args.net.inputs c.args.offsets.now ≡ true = sym c.offsets_fit.ensures ∙ c.if-not-offsets_fit.false in
    output_written _ _ _ c.requires _ _ _ _ _ good near c.if-out-need.false _ c.print_glyph.ensures

pub picture_fits-requires : goal.picture_fits-requires
picture_fits-requires c = (sound_size _ (sound _ _ _ c.requires)).levels_most
