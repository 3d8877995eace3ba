-- The glyph call: its answer, and the outcome for an accepted sheet.
-- Assumes nothing.
use Rattle.laws.specs.Prelude.{ℕ, ◌∙◌, sym, ap, true, false, List, mul-le-mul, length}
use Rattle.std.specs.Prelude.{ℤ, ◌<◌, ◌≤◌, ◌*◌, ◌≡◌, Result}
use Rattle.rules.specs.Calls.Answers.{accepted, refused, written}
use Rattle.rules.specs.Calls.TableWriting.{Written}
use Rattle.rules.specs.Calls.Glyphs.{most_side, new_cell, glyph, picture_fits, offsets_fit, glyph_call}
use Rattle.laws.specs.Calls.Glyphs.{picture_fits_lem, offsets_fit_lem, glyph_24, glyph_25, glyph_15, glyph_printed}
use Rattle.answers.specs.AnswerMaps.{answer_of}
use Rattle.answers.specs.declared.refusal.Refusal.{Refusal}
use Rattle.nets.specs.declared.forms.Header.{Header}
use Rattle.nets.specs.declared.forms.Net.{Net}
use Rattle.nets.specs.Forms.{header_of, gates_of, net_in}
use Rattle.accepted.specs.Taken.{NetTaken, sound}
use Rattle.glyphs.specs.Glyph.{GlyphReady, glyph_by, glyph_of}

-- the answer, and the output after the call
abbrev pub written_of : Result ℕ Refusal → List ℕ → Written
written_of r output = record { answer = answer_of r; output = output }

module _ (s : List ℕ) (h : Header) (net : Net) (taken : NetTaken s h net) (width height : ℕ) (picture : List ℕ) (offsets : List ℤ) (out : List ℕ) where
  -- the net by value and the net of the sheet
  own_picture : picture_fits (net_in s h net).header.levels width height picture ≡ picture_fits net.levels width height picture
  unfolding header_of
  own_picture = ap (λ (m : ℕ). picture_fits m width height picture) (sym taken.levels)

  own_offsets : offsets_fit (net_in s h net).header.inputs offsets ≡ offsets_fit net.inputs offsets
  unfolding header_of
  own_offsets = ap (λ (n : ℕ). offsets_fit n offsets) (sym taken.inputs)

  own_glyph : glyph (net_in s h net) width height picture offsets ≡ glyph_of net width height picture offsets
  unfolding glyph new_cell header_of
  own_glyph = λ i. glyph_by (sym taken.levels i) (sym taken.inputs i) (gates_of net) width height picture offsets

  pub bad_picture : picture_fits net.levels width height picture ≡ false
      → record { answer = refused 24 0; output = out } ≡ glyph_call s width height picture offsets out
  bad_picture e = sym (glyph_24 s width height picture offsets out (net_in s h net) taken.reads (own_picture ∙ e))

  module _ (good : picture_fits net.levels width height picture ≡ true) where
    pub bad_offsets : offsets_fit net.inputs offsets ≡ false → record { answer = refused 25 0; output = out } ≡ glyph_call s width height picture offsets out
    bad_offsets e = sym (glyph_25 s width height picture offsets out (net_in s h net) taken.reads (own_picture ∙ good) (own_offsets ∙ e))

    -- the number of cells is small
    pub few_cells_lem : width * height ≤ most_side * most_side
    few_cells_lem =
        let is = (picture_fits_lem net.levels width height picture).0 good in
        mul-le-mul is.across.most is.along.most

    module _ (near : offsets_fit net.inputs offsets ≡ true) where
      pub output_short : length out < width * height → record { answer = refused 15 (width * height); output = out } ≡ glyph_call s width height picture offsets
          out
      output_short short = sym (glyph_15 s width height picture offsets out (net_in s h net) taken.reads (own_picture ∙ good) (own_offsets ∙ near) short)

      module _ (long : width * height ≤ length out) where
        pub glyph_ready : GlyphReady net width height picture offsets out
        glyph_ready =
            record {
              sound = sound s h net taken;
              picture_is = (picture_fits_lem net.levels width height picture).0 good;
              offsets_are = (offsets_fit_lem net.inputs offsets).0 near;
              room = long;
            }

        pub output_written : (then : List ℕ) → then ≡ written out (glyph_of net width height picture offsets)
            → record { answer = accepted (width * height); output = then } ≡ glyph_call s width height picture offsets out
        output_written then e =
            (λ i. record { answer = accepted (width * height); output = (e ∙ ap (written out) (sym own_glyph)) i })
            ∙ sym (glyph_printed s width height picture offsets out (net_in s h net) taken.reads (own_picture ∙ good) (own_offsets ∙ near) long)
