-- The rows of a picture, one span apart in a list, written one after the other.
-- Assumes nothing.
use Rattle.std.specs.Prelude.{◌<◌, ◌≤◌, ◌+◌, ◌*◌, ◌≡◌, ◌++◌}
use Rattle.laws.specs.Prelude.{ℕ, ◌∙◌, sym, ap, refl, ap₂, List, append-nil, zero-add, zero-mul, mul-le-mul_right}
use Rattle.laws.specs.Prelude.{suc-mul, add-one, arith, length, take, drop, length-append, length-drop, length-take-le, sets, length-sets}
use Rattle.rules.specs.Lists.{range, concat_map}
use Rattle.rules.specs.Calls.Glyphs.{most_side}
use Rattle.laws.specs.Calls.Glyphs.{IsSide}
use Rattle.laws.specs.Lists.Ranges.{range_suc}
use Rattle.laws.specs.Lists.Concat.{concat_append}
use Rattle.laws.specs.Lists.Pastes.{sets_append}
use Rattle.glyphs.specs.Offsets.{span_of}

-- a row ends before the rows do
pub row_below : (y rows span : ℕ) → y < rows → y * span + span ≤ rows * span
row_below y rows span h = rw suc-mul at (mul-le-mul_right span h)

-- row y
abbrev pub row_at : List ℕ → ℕ → ℕ → ℕ → List ℕ
row_at wires start width y = take width (drop (start + y * span_of width) wires)

-- the first `count` rows
abbrev pub rows_from : List ℕ → ℕ → ℕ → ℕ → List ℕ
rows_from wires start width count = concat_map (row_at wires start width) (range 0 count)

-- all rows exist, and there is room for them
pub record RowsReady (wires : List ℕ) (start width rows first : ℕ) (out : List ℕ) : Type 0 where
  pub wide : IsSide width
  pub few : rows ≤ most_side
  pub there : start + rows * span_of width ≤ length wires
  pub room : first + rows * width ≤ length out

-- the first y rows are written
pub record RowsDone (wires : List ℕ) (start width first : ℕ) (before : List ℕ) (y : ℕ) (out : List ℕ) : Type 0 where
  pub count : length (rows_from wires start width y) ≡ y * width
  pub text : out ≡ sets before first (rows_from wires start width y)

pub rows_none : (wires : List ℕ) (start width first : ℕ) (before : List ℕ) → RowsDone wires start width first before 0 before
unfolding range concat_map
rows_none wires start width first before = record { count = sym (zero-mul width); text = refl }

module _ {wires : List ℕ} {start width rows first : ℕ} {before : List ℕ} (ready : RowsReady wires start width rows first before)
    {y : ℕ} {out : List ℕ} (done : RowsDone wires start width first before y out) where
  pub rows_length : length out ≡ length before
  rows_length = ap length done.text ∙ length-sets before first (rows_from wires start width y)

  module _ (turn : y < rows) where
    abbrev from : ℕ
    from = start + y * span_of width

    pub glyph_row_there : from + span_of width ≤ length wires
    glyph_row_there = omega (arith, ready.there, row_below y rows (span_of width) turn)

    pub row_fits : first + y * width + width ≤ length out
    row_fits = omega (arith, rows_length, ready.room, row_below y rows width turn)

    module _ {text : List ℕ} (is : text ≡ take width (drop from wires)) where
      pub row_length : length text ≡ width
      row_length = ap length is ∙ length-take-le width (drop from wires) (rw length-drop (omega (arith, glyph_row_there)))

      more_rows : rows_from wires start width (y + 1) ≡ rows_from wires start width y ++ text
      unfolding concat_map
      more_rows =
          rw (add-one, range_suc, concat_append)
          (ap (λ (r : List ℕ). rows_from wires start width y ++ r)
          (append-nil (row_at wires start width (0 + y)) ∙ (λ i. take width (drop (start + zero-add y i * span_of width) wires)) ∙ sym is))

      pub rows_more : (then : List ℕ) → then ≡ sets out (first + y * width) text → RowsDone wires start width first before (y + 1) then
      rows_more then e =
          let done_rows = rows_from wires start width y in
          let place : first + y * width ≡ first + length done_rows = omega (arith, done.count) in
          record {
            count = rw (more_rows, add-one, suc-mul) (omega (arith, length-append done_rows text, done.count, row_length));
            text = e ∙ ap₂ (λ (l : List ℕ) (k : ℕ). sets l k text) done.text place ∙ sym (sets_append done_rows text before first)
                ∙ ap (sets before first) (sym more_rows);
          }
