-- `glyphs::picture::picture_fits` meets its contract: test by test. Assumes nothing.
use Rattle.std.specs.Prelude.{◌≡◌}
use Rattle.laws.specs.Prelude.{◌∙◌, sym, true, arith, ne_eqb}
use Rattle.rules.specs.Calls.Glyphs.{side_fits}
use Rattle.glyphs.specs.Pictures.{width_bad, height_bad, few_cells_lem, count_bad, cells_decide}
use Rattle.glyphs.proofs.picture.picture_fits.Goals as goal
use Rattle.glyphs.proofs.picture.picture_fits.Goals.{then-not-side_fits-via-then-not-side_fits}
use Rattle.glyphs.proofs.picture.picture_fits.Goals.{then-not-side_fits-via-else-not-side_fits+then-not-side_fits-2}

pub returns-then-not-side_fits : goal.returns-then-not-side_fits
returns-then-not-side_fits c = elim c.then-not-side_fits.branch [
  | then-not-side_fits-via-then-not-side_fits w ↦ sym (width_bad _ _ _ _ (sym c.side_fits.ensures ∙ w.if-not-side_fits.true))
  | then-not-side_fits-via-else-not-side_fits+then-not-side_fits-2 w ↦
      sym (height_bad _ _ _ _ (sym c.side_fits.ensures ∙ w.if-not-side_fits.false)
      (sym w.side_fits-else-not-side_fits.ensures ∙ w.if-not-side_fits-2.true))
]

pub overflow_mul-width : goal.overflow_mul-width
overflow_mul-width c =
    let wide : side_fits c.args.width ≡ true = sym c.side_fits.ensures ∙ c.if-not-side_fits.false in
    let high : side_fits c.args.height ≡ true = sym c.side_fits-else-not-side_fits.ensures ∙ c.if-not-side_fits-2.false in
    omega (arith, few_cells_lem c.args.m c.args.width c.args.height c.args.picture.now wide high)

pub returns-then-picture-width : goal.returns-then-picture-width
returns-then-picture-width c =
    let wide : side_fits c.args.width ≡ true = sym c.side_fits.ensures ∙ c.if-not-side_fits.false in
    let high : side_fits c.args.height ≡ true = sym c.side_fits-else-not-side_fits.ensures ∙ c.if-not-side_fits-2.false in
    cells_decide _ _ _ _ wide high c.if-picture-width.true _ c.first_at_least.ensures

pub returns-else-picture-width : goal.returns-else-picture-width
returns-else-picture-width c =
    let wide : side_fits c.args.width ≡ true = sym c.side_fits.ensures ∙ c.if-not-side_fits.false in
    let high : side_fits c.args.height ≡ true = sym c.side_fits-else-not-side_fits.ensures ∙ c.if-not-side_fits-2.false in
    ne_eqb _ _ c.if-picture-width.false ∙ sym (count_bad _ _ _ _ wide high c.if-picture-width.false)
