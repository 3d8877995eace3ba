-- Whether a picture fits, test by test.
-- Assumes nothing.
use Rattle.std.specs.Prelude.{◌<◌, ◌≤◌, ◌*◌, ◌≡◌}
use Rattle.laws.specs.Prelude.{ℕ, ◌∙◌, sym, refl, true, false, Bool, List, mul-le-mul, dec_lt, arith, eqb, ltb, length, eq-eqb, ne_eqb}
use Rattle.laws.specs.Prelude.{lt-ltb, ltb-true}
use Rattle.rules.specs.Lists.{all}
use Rattle.rules.specs.Calls.Glyphs.{side_fits, picture_fits}
use Rattle.laws.specs.Calls.Glyphs.{side_fits_lem}
use Rattle.laws.specs.Lists.Places.{mem_get_or}
use Rattle.laws.specs.Lists.Tests.{all_mem, all_each}
use Rattle.cells.specs.Bound.{FirstAtLeast}

-- every level is below m if no cell is at least m
below_decides : (m : ℕ) (picture : List ℕ) (k : ℕ) → FirstAtLeast m picture k → eqb k (length picture) ≡ all (λ l. ltb l m) picture
below_decides m picture k first = go (all (λ l. ltb l m) picture) refl (dec_lt k (length picture))
  where
    go : (b : Bool) → all (λ l. ltb l m) picture ≡ b → Dec (k < length picture) → eqb k (length picture) ≡ b
    go true e (yes h) = absurd (omega (arith, ltb-true _ m (all_mem (λ l. ltb l m) (mem_get_or picture k 0 h) e), first.reached h))
    go true e (no end) = eq-eqb k (length picture) (omega (arith, first.most))
    go false e (yes h) = ne_eqb k (length picture) (λ same. omega arith)
    go false e (no end) =
        let all_pass : all (λ l. ltb l m) picture ≡ true = all_each (λ l. ltb l m) 0 picture (λ p l. lt-ltb _ m (first.below p (omega arith))) in
        let z : ◌≡◌ {A = ℕ} 0 1 = cc in
        absurd (omega arith)

-- ---- the picture, test by test

module _ (m width height : ℕ) (picture : List ℕ) where
  pub width_bad : side_fits width ≡ false → picture_fits m width height picture ≡ false
  unfolding picture_fits
  width_bad e = rw e

  module _ (wide : side_fits width ≡ true) where
    pub height_bad : side_fits height ≡ false → picture_fits m width height picture ≡ false
    unfolding picture_fits
    height_bad e = rw (wide, e)

    module _ (high : side_fits height ≡ true) where
      -- the number of cells is small
      pub few_cells_lem : width * height ≤ 4_096
      few_cells_lem = mul-le-mul ((side_fits_lem width).0 wide).most ((side_fits_lem height).0 high).most

      pub count_bad : (length picture ≡ width * height → ⊥) → picture_fits m width height picture ≡ false
      unfolding picture_fits
      count_bad e = rw (wide, high, ne_eqb _ _ e)

      pub cells_decide : length picture ≡ width * height → (k : ℕ) → FirstAtLeast m picture k → eqb k (length picture) ≡ picture_fits m width height picture
      unfolding picture_fits
      cells_decide e k first = below_decides m picture k first ∙ sym (rw (wide, high, eq-eqb _ _ e))
