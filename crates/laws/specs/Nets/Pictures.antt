-- The new picture, cell by cell: each is the entry of the net's table at the levels that are read.
-- Assumes nothing.
use Rattle.laws.specs.Prelude.{ℕ, ◌∙◌, sym, ap, refl, true, false, Bool, and-eq-true_iff, and-false, List, map}
use Rattle.laws.specs.Prelude.{zero-add, mul_comm, ltb, length, get_or, lt-ltb, le-ltb, ltb-true, digits_lt}
use Rattle.rules.specs.Lists.{range}
use Rattle.rules.specs.Nets.Value.{value, table_of, value_with}
use Rattle.rules.specs.Sheets.Sheets.{Gate, Net, levels_at}
use Rattle.std.specs.Prelude.{ℤ, pos, negsuc, ◌+ℤ◌, ◌<◌, ◌≤◌, ◌+◌, ◌^◌, ◌*◌, ◌≡◌, ◌&&◌}
use Rattle.rules.specs.Calls.Glyphs.{level_at, across, down, levels_read, new_cell, glyph}
use Rattle.laws.specs.Lists.Ranges.{map_range_length, map_range_at, range_length, range_at}
use Rattle.laws.specs.Lists.Concat.{concat_length, concat_at}
use Rattle.laws.specs.Numbers.Assignments.{Assignment, index_of, index_of_below, levels_index}
use Rattle.laws.specs.Calls.Glyphs.{IsPicture}

-- the new picture has as many cells as the old one
pub glyph_length : (net : Net) (width height : ℕ) (picture : List ℕ) (offsets : List ℤ) → length (glyph net width height picture offsets) ≡ width * height
unfolding glyph
glyph_length net width height picture offsets =
    concat_length (λ y. map (λ x. new_cell net width height picture offsets x y) (range 0 width)) width
    (λ y. map_range_length (λ x. new_cell net width height picture offsets x y) 0 width) (range 0 height)
    ∙ rw range_length (mul_comm height width)

-- ---- the level of an old cell

module _ (width height : ℕ) (picture : List ℕ) where
  pub level_in : (x y : ℕ) → x < width → y < height → level_at width height picture (pos x) (pos y) ≡ get_or picture (y * width + x) 0
  unfolding level_at
  level_in x y h k =
      let both : (ltb x width && ltb y height) ≡ true = (and-eq-true_iff (ltb x width) (ltb y height)).1 (lt-ltb x width h, lt-ltb y height k) in
      rw (both, level_at)

  -- "outside the picture the level is 0": past the last column, below the last row
  pub level_across : (x : ℕ) (y : ℤ) → width ≤ x → level_at width height picture (pos x) y ≡ 0
  unfolding level_at
  level_across x (pos y) h = rw (le-ltb x width h, level_at)
  level_across x (negsuc y) h = refl

  pub level_along : (x : ℤ) (y : ℕ) → height ≤ y → level_at width height picture x (pos y) ≡ 0
  unfolding level_at
  level_along (pos x) y h =
      let none : (ltb x width && ltb y height) ≡ false = rw (le-ltb y height h) (and-false (ltb x width)) in
      rw (none, level_at)
  level_along (negsuc x) y h = refl

  -- before the first column, above the first row
  pub level_left : (x : ℕ) (y : ℤ) → level_at width height picture (negsuc x) y ≡ 0
  unfolding level_at
  level_left x y = refl

  pub level_above : (x : ℤ) (y : ℕ) → level_at width height picture x (negsuc y) ≡ 0
  unfolding level_at
  level_above (pos x) y = refl
  level_above (negsuc x) y = refl

-- ---- values

-- a net's value at some levels is its value at their index
pub value_levels : (m n p : ℕ) (gates : List Gate) → value m n gates p ≡ value_with m n gates (levels_at m n p)
unfolding value value_with
value_levels m n p gates = refl

module _ (m n : ℕ) (gates : List Gate) (ls : List ℕ) (given : Assignment m n ls) where
  pub value_index : value_with m n gates ls ≡ get_or (table_of m n gates) (index_of m ls) 0
  unfolding table_of
  value_index =
      ap (value_with m n gates) (sym (levels_index m n ls given)) ∙ sym (value_levels m n (index_of m ls) gates)
      ∙ ap (value m n gates) (sym (zero-add _))
      ∙ sym (map_range_at (value m n gates) 0 (m ^ n) (index_of m ls) 0 (index_of_below m n ls given))

module _ (m width height : ℕ) (picture : List ℕ) (is : IsPicture m width height picture) (pos_m : 0 < m) where
  -- a cell within the picture
  cell_within : (x y : ℕ) → x < width → y < height → y * width + x < length picture
  cell_within x y h k = rw (is.count, mul_comm width height) (digits_lt k h)

  -- every level read is below m
  pub picture_level_below : (x y : ℤ) → level_at width height picture x y < m
  unfolding level_at
  picture_level_below (pos x) (pos y) = go (ltb x width && ltb y height) refl
    where
      go : (t : Bool) → (ltb x width && ltb y height) ≡ t → elim t [ true ↦ get_or picture (y * width + x) 0 | false ↦ 0 ] < m
      go true e =
          let (h, k) = (and-eq-true_iff (ltb x width) (ltb y height)).0 e in
          is.below (y * width + x) (cell_within x y (ltb-true _ _ h) (ltb-true _ _ k))
      go false e = pos_m
  picture_level_below (pos x) (negsuc y) = pos_m
  picture_level_below (negsuc x) y = pos_m

  -- so the levels of all inputs are an assignment
  pub picture_levels_given : (n : ℕ) (offsets : List ℤ) (x y : ℕ) → Assignment m n (levels_read n width height picture offsets x y)
  unfolding levels_read
  picture_levels_given n offsets x y =
      let read : ℕ → ℕ = λ i. level_at width height picture (pos x +ℤ across offsets i) (pos y +ℤ down offsets i) in
      record {
        count = map_range_length read 0 n;
        below = λ i h. rw (map_range_at read 0 n i 0 h) (picture_level_below _ _);
      }

-- the new picture's cell in column x and row y
pub glyph_at : (net : Net) (width height : ℕ) (picture : List ℕ) (offsets : List ℤ) (x y : ℕ) → x < width → y < height
    → get_or (glyph net width height picture offsets) (y * width + x) 0 ≡ new_cell net width height picture offsets x y
unfolding glyph
glyph_at net width height picture offsets x y h k =
    concat_at (λ y. map (λ x. new_cell net width height picture offsets x y) (range 0 width)) width
    (λ y. map_range_length (λ x. new_cell net width height picture offsets x y) 0 width) (range 0 height) 0 0 y x (rw range_length k) h
    ∙ rw (range_at 0 height y 0 k, zero-add y) (map_range_at (λ x. new_cell net width height picture offsets x y) 0 width x 0 h)
    ∙ ap (λ (z : ℕ). new_cell net width height picture offsets z y) (zero-add x)
