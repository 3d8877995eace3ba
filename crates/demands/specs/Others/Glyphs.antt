-- Document 02, K11: what the glyph call prints, and that nets that settle alike print the same glyph.
-- Assumes nothing.
use Rattle.laws.specs.Prelude.{ℕ, ◌∙◌, sym, ap, refl, true, false, Bool, List, map, add-zero, mul_comm, arith, length, get_or}
use Rattle.laws.specs.Prelude.{drop, length-append, replicate, length-drop, get_or-append, drop-append_seam, digits_lt}
use Rattle.rules.specs.Calls.Answers.{Answer, accepted, refused, written}
use Rattle.rules.specs.Calls.Settling.{settled_net, settle_call}
use Rattle.rules.specs.Lists.{range, concat_map}
use Rattle.rules.specs.Nets.Value.{value_with}
use Rattle.rules.specs.Sheets.Reading.{read_net, table_of_net}
use Rattle.rules.specs.Sheets.SheetRules.{NetRules}
use Rattle.rules.specs.Sheets.Sheets.{Net, Table}
use Rattle.std.specs.Prelude.{ℤ, pos, ◌+ℤ◌, ◌<◌, ◌≤◌, ◌+◌, ◌*◌, ◌≡◌, ◌++◌}
use Rattle.rules.specs.Calls.TableWriting.{Written}
use Rattle.rules.specs.Calls.Glyphs.{across, down, level_at, levels_read, new_cell, glyph, picture_fits, glyph_judged, glyph_into, glyph_call}
use Rattle.laws.specs.Calls.Answers.{not_refused}
use Rattle.laws.specs.Numbers.Assignments.{index_of, index_of_below}
use Rattle.laws.specs.Lists.Concat.{concat_same, map_same}
use Rattle.laws.specs.Calls.Glyphs.{IsPicture, AreOffsets, picture_fits_lem, offsets_fit_lem, glyph_read, glyph_printed}
use Rattle.laws.specs.Nets.Pictures.{glyph_length, glyph_at, value_index, level_in, picture_levels_given}
use Rattle.laws.specs.Lists.Ranges.{map_range_same, map_range_all}
use Rattle.laws.specs.Numbers.Sizes.{kept_size}
use Rattle.readback.specs.Sheets.ReadBack.{net_accepted}
use Rattle.demands.specs.Sheets.FullSheets.{FullTableRules, net_kept}
use Rattle.demands.specs.Settling.Settles.{sheet_of, settled_accepted, settled_own_table, settled_is, same_settled}

-- ---- "Each cell of the new picture is the net's value with input i read from the old cell at its offset"

-- the answer is the number of cells; each new cell; the output keeps its further bytes
pub record Prints (net : Net) (width height : ℕ) (picture : List ℕ) (offsets : List ℤ) (output : List ℕ) (made : Written) : Type 0 where
  pub answer : made.answer ≡ accepted (width * height)
  pub cells : (x y : ℕ) → x < width → y < height → get_or made.output (y * width + x) 0 ≡ new_cell net width height picture offsets x y
  pub further : drop (width * height) made.output ≡ drop (width * height) output
  pub same : length made.output ≡ length output

written_prints : (net : Net) (width height : ℕ) (picture : List ℕ) (offsets : List ℤ) (output : List ℕ) → width * height ≤ length output
    → Prints net width height picture offsets output
    (record { answer = accepted (width * height); output = written output (glyph net width height picture offsets) })
unfolding written
written_prints net width height picture offsets output long =
    let new = glyph net width height picture offsets in
    let cells : length new ≡ width * height = glyph_length net width height picture offsets in
    record {
      answer = refl;
      cells = λ x y h k.
          get_or-append new (drop (length new) output) 0 (y * width + x) (rw (cells, mul_comm width height) (digits_lt k h))
          ∙ glyph_at net width height picture offsets x y h k;
      further =
          ap (λ (k : ℕ). drop k (new ++ drop (length new) output)) (sym cells) ∙ drop-append_seam new (drop (length new) output)
          ∙ ap (λ (k : ℕ). drop k output) cells;
      same = omega (arith, length-append new (drop (length new) output), length-drop (length new) output, cells);
    }

-- If the picture, the offsets and the output are valid, the call prints the glyph.
pub glyph_prints : (s : List ℕ) (net : Net) → read_net s ≡ accepted net → (width height : ℕ) (picture : List ℕ) (offsets : List ℤ) (output : List ℕ)
    → IsPicture net.header.levels width height picture → AreOffsets net.header.inputs offsets → width * height ≤ length output
    → Prints net width height picture offsets output (glyph_call s width height picture offsets output)
glyph_prints s net reads width height picture offsets output is are long =
    rw (glyph_printed s width height picture offsets output net reads ((picture_fits_lem net.header.levels width height picture).1 is)
    ((offsets_fit_lem net.header.inputs offsets).1 are) long)
    (written_prints net width height picture offsets output long)

-- ---- the net's table determines the glyph

-- a new cell from a table: its entry at the levels read
abbrev cell_from : Table → ℕ → ℕ → List ℕ → List ℤ → ℕ → ℕ → ℕ
cell_from t width height picture offsets x y = get_or t.inks (index_of t.header.levels (levels_read t.header.inputs width height picture offsets x y)) 0

abbrev glyph_from : Table → ℕ → ℕ → List ℕ → List ℤ → List ℕ
glyph_from t width height picture offsets = concat_map (λ y. map (λ x. cell_from t width height picture offsets x y) (range 0 width)) (range 0 height)

-- the result of the call, from the verdict and the new picture
abbrev judged_into : Answer (Unit {0}) → ℕ → List ℕ → List ℕ → Written
judged_into judged count new output = elim judged [
  | refused number place ↦ record { answer = refused number place; output = output }
  | accepted fits ↦ record { answer = accepted count; output = written output new }
]

-- everything the call does after reading the sheet, from a table
abbrev into_from : Table → ℕ → ℕ → List ℕ → List ℤ → List ℕ → Written
into_from t width height picture offsets output =
    judged_into (glyph_judged t.header.levels t.header.inputs width height picture offsets output) (width * height)
    (glyph_from t width height picture offsets) output

-- if everything is judged good, the picture is valid
judged_picture : (m n width height : ℕ) (picture : List ℕ) (offsets : List ℤ) (output : List ℕ)
    → glyph_judged m n width height picture offsets output ≡ accepted tt
    → IsPicture m width height picture
judged_picture m n width height picture offsets output e = (picture_fits_lem m width height picture).0 (go (picture_fits m width height picture) refl)
  where
    go : (t : Bool) → picture_fits m width height picture ≡ t → t ≡ true
    go true is = refl
    go false is = absurd (not_refused tt 24 0 (sym e ∙ (unfold glyph_judged in rw (is, glyph_judged))))

module _ (net : Net) (kept : NetRules net) where
  levels_some : 0 < net.header.levels
  levels_some = omega (arith, (kept_size net.header kept.header).levels_least)

  cell_from_lem : (width height : ℕ) (picture : List ℕ) (offsets : List ℤ) → IsPicture net.header.levels width height picture
      → (x y : ℕ) → new_cell net width height picture offsets x y ≡ cell_from (table_of_net net) width height picture offsets x y
  unfolding new_cell table_of_net
  cell_from_lem width height picture offsets is x y =
      value_index net.header.levels net.header.inputs net.gates (levels_read net.header.inputs width height picture offsets x y)
      (picture_levels_given net.header.levels width height picture is levels_some net.header.inputs offsets x y)

  -- every new cell has a level, so the new picture is again a picture
  pub new_below : (width height : ℕ) (picture : List ℕ) (offsets : List ℤ) → IsPicture net.header.levels width height picture
      → (x y : ℕ) → new_cell net width height picture offsets x y < net.header.levels
  unfolding table_of_net
  new_below width height picture offsets is x y = rw (cell_from_lem width height picture offsets is x y) (below (net_kept net kept))
    where
      below : FullTableRules (table_of_net net) → cell_from (table_of_net net) width height picture offsets x y < net.header.levels
      below table =
          let read = levels_read net.header.inputs width height picture offsets x y in
          table.below (index_of net.header.levels read)
          (rw table.count (index_of_below net.header.levels net.header.inputs read
          (picture_levels_given net.header.levels width height picture is levels_some net.header.inputs offsets x y)))

  into_from_lem : (width height : ℕ) (picture : List ℕ) (offsets : List ℤ) (output : List ℕ)
      → glyph_into net width height picture offsets output ≡ into_from (table_of_net net) width height picture offsets output
  unfolding glyph_into table_of_net
  into_from_lem width height picture offsets output = go (glyph_judged net.header.levels net.header.inputs width height picture offsets output) refl
    where
      same : IsPicture net.header.levels width height picture
          → glyph net width height picture offsets ≡ glyph_from (table_of_net net) width height picture offsets
      same is = unfold glyph in concat_same _ _ (λ y. map_same _ _ (λ x. cell_from_lem width height picture offsets is x y) (range 0 width)) (range 0 height)

      go : (j : Answer (Unit {0})) → glyph_judged net.header.levels net.header.inputs width height picture offsets output ≡ j
          → judged_into j (width * height) (glyph net width height picture offsets) output
          ≡ judged_into j (width * height) (glyph_from (table_of_net net) width height picture offsets) output
      go (refused number place) e = refl
      go (accepted fits) e =
          λ i. record {
            answer = accepted (width * height);
            output = written output (same (judged_picture net.header.levels net.header.inputs width height picture offsets output e) i);
          }

-- Two net sheets with the same levels, inputs, names and table: the two calls have the same result, whatever else is lent to them.
pub same_table_glyph : (s r : List ℕ) (net other : Net) → read_net s ≡ accepted net → read_net r ≡ accepted other → table_of_net net ≡ table_of_net other
    → (width height : ℕ) (picture : List ℕ) (offsets : List ℤ) (output : List ℕ)
    → glyph_call s width height picture offsets output ≡ glyph_call r width height picture offsets output
same_table_glyph s r net other reads reads_other same width height picture offsets output =
    glyph_read s width height picture offsets output net reads
    ∙ into_from_lem net (net_accepted s net reads).1 width height picture offsets output
    ∙ ap (λ (t : Table). into_from t width height picture offsets output) same
    ∙ sym (glyph_read r width height picture offsets output other reads_other
    ∙ into_from_lem other (net_accepted r other reads_other).1 width height picture offsets output)

-- ---- "Two nets that settle alike must print the same glyph from the same picture and offsets."

-- If settling writes the same sheet for both, the two glyph calls give the same answer and output, with every picture, all offsets and every output.
pub settle_alike_print_alike : (s r sheet : List ℕ) (cells marks output cells' marks' output' : List ℕ)
    → sheet_of (settle_call s cells marks output) ≡ accepted sheet → sheet_of (settle_call r cells' marks' output') ≡ accepted sheet
    → (width height : ℕ) (picture : List ℕ) (offsets : List ℤ) (out : List ℕ)
    → glyph_call s width height picture offsets out ≡ glyph_call r width height picture offsets out
settle_alike_print_alike s r sheet cells marks output cells' marks' output' e d =
    let same = same_settled s r sheet cells marks output cells' marks' output' e d in
    same_table_glyph s r same.net same.other same.reads same.reads_other same.table

-- The settled sheet itself prints the glyph of the sheet that it came from.
pub settled_prints : (s sheet : List ℕ) (cells marks output : List ℕ) → sheet_of (settle_call s cells marks output) ≡ accepted sheet
    → (width height : ℕ) (picture : List ℕ) (offsets : List ℤ) (out : List ℕ)
    → glyph_call sheet width height picture offsets out ≡ glyph_call s width height picture offsets out
settled_prints s sheet cells marks output e =
    let (net, reads, is) = settled_is s cells marks output sheet e in
    same_table_glyph sheet s (settled_net (table_of_net net)) net (ap read_net is ∙ settled_accepted s net reads) reads (settled_own_table s net reads)

-- ---- all offsets 0

module _ (net : Net) (width height : ℕ) (offsets : List ℤ) (still : (k : ℕ) → get_or offsets k (pos 0) ≡ pos 0) (x y : ℕ) (h : x < width) (k : y < height) where
  -- each input has the cell's own old level, ..
  pub own_level : (picture : List ℕ)
      → new_cell net width height picture offsets x y ≡ value_with net.header.levels net.header.inputs net.gates
      (replicate net.header.inputs (get_or picture (y * width + x) 0))
  unfolding new_cell levels_read across down
  own_level picture =
      ap (value_with net.header.levels net.header.inputs net.gates)
      (map_range_same _ (λ _. get_or picture (y * width + x) 0) 0 net.header.inputs
      (λ i _ _. (λ j. level_at width height picture (pos x +ℤ still (2 * i) j) (pos y +ℤ still (2 * i + 1) j))
      ∙ rw (add-zero, add-zero) (level_in width height picture x y h k))
      ∙ map_range_all (get_or picture (y * width + x) 0) 0 net.header.inputs)

  -- .. so the new cell depends only on that
  pub own_alone : (picture other : List ℕ) → get_or picture (y * width + x) 0 ≡ get_or other (y * width + x) 0
      → new_cell net width height picture offsets x y ≡ new_cell net width height other offsets x y
  own_alone picture other e =
      own_level picture ∙ ap (λ (l : ℕ). value_with net.header.levels net.header.inputs net.gates (replicate net.header.inputs l)) e
      ∙ sym (own_level other)
