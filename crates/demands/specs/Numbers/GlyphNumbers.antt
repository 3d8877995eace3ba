-- The numbers with which the glyph call may refuse.
-- Assumes nothing.
use Rattle.laws.specs.Prelude.{ℕ, refl, true, List, [], mul-le-mul, arith, eqb, ltb, length, ltb-true}
use Rattle.rules.specs.Lists.{all, any}
use Rattle.rules.specs.Sheets.Reading.{read_net}
use Rattle.std.specs.Prelude.{ℤ, ◌<◌, ◌≤◌, ◌*◌, ◌≡◌, ◌∷◌}
use Rattle.rules.specs.Calls.TableWriting.{Written}
use Rattle.rules.specs.Calls.Glyphs.{most_side, picture_fits, offsets_fit, glyph_judged, glyph_into, glyph_call}
use Rattle.laws.specs.Lists.Distinct.{In, wider}
use Rattle.laws.specs.Calls.Glyphs.{IsPicture, picture_fits_lem}
use Rattle.laws.specs.Lists.Tests.{by_test}
use Rattle.readback.specs.Readers.Numbers.{net_numbers, net_refusal}
use Rattle.demands.specs.Numbers.Numbers.{Gives, accepts, by_answer, by_tested, refuses}

abbrev pub glyph_numbers : List ℕ
glyph_numbers = 1 ∷ 2 ∷ 3 ∷ 4 ∷ 6 ∷ 7 ∷ 8 ∷ 26 ∷ 24 ∷ 25 ∷ 15 ∷ []

-- an output of 64 · 64 bytes, which include/sitgurp.h calls enough for every picture
abbrev pub glyph_ample_numbers : List ℕ
glyph_ample_numbers = 1 ∷ 2 ∷ 3 ∷ 4 ∷ 6 ∷ 7 ∷ 8 ∷ 26 ∷ 24 ∷ 25 ∷ []

module _ (s : List ℕ) (width height : ℕ) (picture : List ℕ) (offsets : List ℤ) (output : List ℕ) where
  -- "New numbers: 24 .. 25 .. before 15", and 15 if the output is too short for a picture, among any numbers
  module _ (numbers : List ℕ) (h24 : In 24 numbers) (h25 : In 25 numbers)
      (h15 : (m : ℕ) → IsPicture m width height picture → length output < width * height → In 15 numbers) where
    judged_numbers_lem : (m n : ℕ) → Gives numbers (glyph_judged m n width height picture offsets output)
    unfolding glyph_judged
    judged_numbers_lem m n =
        by_tested (Gives numbers) (picture_fits m width height picture) _ _
        (λ fits. by_test (Gives numbers) (offsets_fit n offsets) _ _
        (by_tested (Gives numbers) (ltb (length output) (width * height)) _ _
        (λ short. refuses numbers 15 _ (h15 m ((picture_fits_lem m width height picture).0 fits) (ltb-true _ _ short))) (λ _. accepts numbers tt))
        (refuses numbers 25 0 h25))
        (λ _. refuses numbers 24 0 h24)

    call_numbers : all (λ k. any (eqb k) numbers) net_numbers ≡ true → Gives numbers (glyph_call s width height picture offsets output).answer
    unfolding glyph_call glyph_into
    call_numbers nets =
        by_answer (λ (made : Written). Gives numbers made.answer) (read_net s) _ _
        (λ net _. by_answer (λ (made : Written). Gives numbers made.answer)
        (glyph_judged net.header.levels net.header.inputs width height picture offsets output) _ _ (λ _ _. accepts numbers _)
        (λ number place e. refuses numbers number place (judged_numbers_lem net.header.levels net.header.inputs number place e)))
        (λ number place e. refuses numbers number place (wider net_numbers numbers nets number (net_refusal s number place e)))

  pub glyph_numbers_lem : Gives glyph_numbers (glyph_call s width height picture offsets output).answer
  unfolding any all
  glyph_numbers_lem = call_numbers glyph_numbers refl refl (λ _ _ _. refl) refl

  pub glyph_ample_numbers_lem : most_side * most_side ≤ length output → Gives glyph_ample_numbers (glyph_call s width height picture offsets output).answer
  unfolding any all
  glyph_ample_numbers_lem long =
      call_numbers glyph_ample_numbers refl refl (λ m is short. absurd (omega (arith, mul-le-mul is.across.most is.along.most))) refl
