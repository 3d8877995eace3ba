-- Document 02, K11, by small cases: a picture before and after, and what the call leaves in its output. Sheets are written as in `Cases`, with `/`
-- for the line feed.
-- Assumes nothing.
use Rattle.std.specs.Prelude.{ℕ, ◌-◌, ◌≡◌, refl, Bool, true, false, cond, List, [], ◌∷◌, ℤ, pos, neg_ℤ, eqb}
use Prim.Native.String.{String}
use Rattle.rules.specs.Text.{text, is_digit}
use Rattle.rules.specs.Calls.Answers.{Answer, accepted, onward}
use Rattle.rules.specs.Sheets.Reading.{read_net}
use Rattle.rules.specs.Calls.Glyphs.{glyph, glyph_call}
use Rattle.rules.specs.Cases.Written.{AllHold, paper, digits, writing}
use Rattle.rules.specs.Evaluation.{computing}

-- ---- how a case is written down

-- numbers of one digit, each perhaps preceded by a minus; everything else is skipped
unfoldable pub signed_from : Bool → List ℕ → List ℤ
signed_from minus [] = []
signed_from minus (b ∷ s) =
    elim (eqb b 45) [
      | true ↦ signed_from true s
      | false ↦ elim (is_digit 10 b) [ true ↦ cond minus (neg_ℤ (pos (b - 48))) (pos (b - 48)) ∷ signed_from false s | false ↦ signed_from false s ]
    ]

unfoldable pub signed : String → List ℤ
signed s = signed_from false (text s)

-- the glyph that an accepted net sheet prints
unfoldable pub glyph_in : List ℕ → ℕ → ℕ → List ℕ → List ℤ → Answer (List ℕ)
glyph_in sheet width height picture offsets = onward (read_net sheet) (λ net. accepted (glyph net width height picture offsets))

-- what a case may say: the new picture; what the call leaves in an output that was all nines
pub data GlyphCase : Type 0 where
  prints : (sheet : String) (width height : ℕ) (picture offsets new : String) → GlyphCase
  leaves : (sheet : String) (width height : ℕ) (picture offsets output : String) (count : ℕ) (output_then : String) → GlyphCase

abbrev pub GlyphHolds : GlyphCase → Type 0
GlyphHolds (prints sheet width height picture offsets new) =
    glyph_in (paper sheet) width height (digits (text picture)) (signed offsets) ≡ accepted (digits (text new))
GlyphHolds (leaves sheet width height picture offsets output count output_then) =
    glyph_call (paper sheet) width height (digits (text picture)) (signed offsets) (digits (text output))
    ≡ record { answer = accepted count; output = digits (text output_then) }

-- the exclusive or of two levels, and the larger of a and the smaller of b and c
abbrev pub differ : String
differ = "levels inputs/2 2/a b/left right table/a b 0110/"

abbrev pub shade : String
shade = "levels inputs/3 3/a b c/left right table/b c 000011012/a 1 012112222/"

-- ---- the glyph_cases

abbrev pub glyph_cases : List GlyphCase
glyph_cases =
    -- b is the cell to the left: at the left edge it is outside, where the level is 0; it is not the last cell of the row above
    prints differ 3 2 "011 101" "0 0 -1 0" "010 111"
    -- b is the cell to the right, the one above, the one below
    ∷ prints differ 3 2 "011 101" "0 0 1 0" "101 111"
    ∷ prints differ 3 2 "011 101" "0 0 0 -1" "011 110"
    ∷ prints differ 3 2 "011 101" "0 0 0 1" "110 101"
    -- two cells off, across and down at once: outside in a small picture
    ∷ prints differ 3 2 "011 101" "0 0 2 1" "111 101"
    ∷ prints differ 3 2 "011 101" "2 -2 -2 2" "000 000"
    -- all offsets 0: each new cell depends on its own old level, and is the larger of it and the smaller of it and itself
    ∷ prints shade 2 2 "01 20" "0 0 0 0 0 0" "01 20"
    -- three levels: a gap is closed where both neighbours across are dark
    ∷ prints shade 3 1 "202" "0 0 -1 0 1 0" "222"
    -- one cell; the output keeps its further bytes
    ∷ leaves differ 1 1 "1" "0 0 0 0" "999" 1 "099"
    ∷ leaves differ 3 2 "011 101" "0 0 -1 0" "9999999" 6 "0101119"
    ∷ []

pub glyph_cases_hold : AllHold GlyphHolds glyph_cases
unfolding computing writing signed_from signed glyph_in
glyph_cases_hold = (refl, (refl, (refl, (refl, (refl, (refl, (refl, (refl, (refl, (refl, tt))))))))))
