-- The result of the glyph call, one law for each outcome; and what it means, in inequalities, that a picture and offsets pass.
-- Assumes nothing.
use Rattle.laws.specs.Prelude.{ℕ, true, false, and-eq-true_iff, List, eqb, ltb, leb, length, get_or, eq-eqb, eqb-true}
use Rattle.laws.specs.Prelude.{lt-ltb, le-ltb, le-leb, leb-true, ltb-true}
use Rattle.rules.specs.Calls.Answers.{accepted, refused, written}
use Rattle.rules.specs.Lists.{all}
use Rattle.rules.specs.Sheets.Reading.{read_net}
use Rattle.rules.specs.Sheets.Sheets.{Net}
use Rattle.std.specs.Prelude.{ℤ, pos, nat_abs, ◌<◌, ◌≤◌, ◌*◌, ◌≡◌, ◌↔◌, ◌&&◌}
use Rattle.rules.specs.Calls.Glyphs.{most_side, most_offset, glyph, side_fits, picture_fits, offsets_fit, glyph_judged, glyph_into, glyph_call}
use Rattle.laws.specs.Lists.Places.{mem_get_or}
use Rattle.laws.specs.Lists.Tests.{all_mem, all_each, both_leb}

-- ---- a picture and offsets that pass

-- "1 to 64 cells a side"
pub record IsSide (side : ℕ) : Type 0 where
  pub some : 1 ≤ side
  pub most : side ≤ most_side

-- "a picture of width times height cells", each with a level below m
pub record IsPicture (m width height : ℕ) (picture : List ℕ) : Type 0 where
  pub across : IsSide width
  pub along : IsSide height
  pub count : length picture ≡ width * height
  pub below : (k : ℕ) → k < length picture → get_or picture k 0 < m

-- "for each input an offset across and down from −2 to 2"
pub record AreOffsets (n : ℕ) (offsets : List ℤ) : Type 0 where
  pub count : length offsets ≡ 2 * n
  pub near : (k : ℕ) → k < length offsets → nat_abs (get_or offsets k (pos 0)) ≤ most_offset

pub side_fits_lem : (side : ℕ) → (side_fits side ≡ true) ↔ IsSide side
unfolding side_fits
side_fits_lem side = (
  λ e.
      let (some, most) = (both_leb 1 side side most_side).0 e in
      record { some = some; most = most },
  λ is. (both_leb 1 side side most_side).1 (is.some, is.most),
)

pub picture_fits_lem : (m width height : ℕ) (picture : List ℕ) → (picture_fits m width height picture ≡ true) ↔ IsPicture m width height picture
unfolding picture_fits
picture_fits_lem m width height picture = (
  λ e.
      let (front, below) = (and-eq-true_iff (side_fits width && side_fits height && eqb (length picture) (width * height)) (all (λ l. ltb l m) picture)).0 e in
      let (sides, count) = (and-eq-true_iff (side_fits width && side_fits height) (eqb (length picture) (width * height))).0 front in
      let (across, along) = (and-eq-true_iff (side_fits width) (side_fits height)).0 sides in
      record {
        across = (side_fits_lem width).0 across;
        along = (side_fits_lem height).0 along;
        count = eqb-true _ _ count;
        below = λ k h. ltb-true _ _ (all_mem (λ l. ltb l m) (mem_get_or picture k 0 h) below);
      },
  λ is.
      (and-eq-true_iff (side_fits width && side_fits height && eqb (length picture) (width * height)) (all (λ l. ltb l m) picture)).1 (
        (and-eq-true_iff (side_fits width && side_fits height) (eqb (length picture) (width * height))).1
            ((and-eq-true_iff (side_fits width) (side_fits height)).1 ((side_fits_lem width).1 is.across, (side_fits_lem height).1 is.along), eq-eqb _ _ is.count),
        all_each (λ l. ltb l m) 0 picture (λ k h. lt-ltb _ _ (is.below k h)),
      ),
)

pub offsets_fit_lem : (n : ℕ) (offsets : List ℤ) → (offsets_fit n offsets ≡ true) ↔ AreOffsets n offsets
unfolding offsets_fit
offsets_fit_lem n offsets = (
  λ e.
      let (count, near) = (and-eq-true_iff (eqb (length offsets) (2 * n)) (all (λ o. leb (nat_abs o) most_offset) offsets)).0 e in
      record { count = eqb-true _ _ count; near = λ k h. leb-true _ _ (all_mem (λ o. leb (nat_abs o) most_offset) (mem_get_or offsets k (pos 0) h) near) },
  λ are.
      (and-eq-true_iff (eqb (length offsets) (2 * n)) (all (λ o. leb (nat_abs o) most_offset) offsets)).1
      (eq-eqb _ _ are.count, all_each (λ o. leb (nat_abs o) most_offset) (pos 0) offsets (λ k h. le-leb _ _ (are.near k h))),
)

-- ---- the outcomes

module _ (sheet : List ℕ) (width height : ℕ) (picture : List ℕ) (offsets : List ℤ) (output : List ℕ) where
  pub glyph_refused : (number place : ℕ) → read_net sheet ≡ refused number place
      → glyph_call sheet width height picture offsets output ≡ record { answer = refused number place; output = output }
  unfolding glyph_call
  glyph_refused number place e = rw (e, glyph_call)

  module _ (net : Net) (reads : read_net sheet ≡ accepted net) where
    pub glyph_read : glyph_call sheet width height picture offsets output ≡ glyph_into net width height picture offsets output
    unfolding glyph_call
    glyph_read = rw (reads, glyph_call)

    pub glyph_24 : picture_fits net.header.levels width height picture ≡ false
        → glyph_call sheet width height picture offsets output ≡ record { answer = refused 24 0; output = output }
    unfolding glyph_into glyph_judged
    glyph_24 bad = rw (glyph_read, glyph_into, glyph_judged, bad, glyph_judged, glyph_into)

    module _ (good : picture_fits net.header.levels width height picture ≡ true) where
      pub glyph_25 : offsets_fit net.header.inputs offsets ≡ false
          → glyph_call sheet width height picture offsets output ≡ record { answer = refused 25 0; output = output }
      unfolding glyph_into glyph_judged
      glyph_25 bad = rw (glyph_read, glyph_into, glyph_judged, good, glyph_judged, bad, glyph_judged, glyph_into)

      module _ (near : offsets_fit net.header.inputs offsets ≡ true) where
        pub glyph_15 : length output < width * height
            → glyph_call sheet width height picture offsets output ≡ record { answer = refused 15 (width * height); output = output }
        unfolding glyph_into glyph_judged
        glyph_15 short = rw (glyph_read, glyph_into, glyph_judged, good, glyph_judged, near, glyph_judged, lt-ltb _ _ short, glyph_judged, glyph_into)

        pub glyph_printed : width * height ≤ length output
            → glyph_call sheet width height picture offsets output
            ≡ record { answer = accepted (width * height); output = written output (glyph net width height picture offsets) }
        unfolding glyph_into glyph_judged
        glyph_printed long = rw (glyph_read, glyph_into, glyph_judged, good, glyph_judged, near, glyph_judged, le-ltb _ _ long, glyph_judged, glyph_into)
