-- A row matches its frame, and its bytes have a weighted sum.
-- Assumes nothing.
use Rattle.std.specs.Prelude.{◌<◌, ◌≤◌, ◌+◌, ◌*◌, ◌%◌, ◌/◌, ◌^◌, ◌≡◌, Option, Some, None, IfSome}
use Rattle.laws.specs.Prelude.{ℕ, suc, zero, ◌∙◌, ap, refl, List, mul-zero, add-one, arith}
use Rattle.laws.specs.Prelude.{length, get_or}
use Rattle.rules.specs.Text.{space_byte}
use Rattle.loose_sheets.specs.Fast.Frame.{most_laid}

module _ (s : List ℕ) (at : ℕ) (frame : List ℕ) where
  -- the byte at place k fits
  pub record FitsAt (k : ℕ) : Type 0 where
    pub byte : get_or s (at + k) 0 < 256
    pub fits : get_or frame (128 + k) 0 ≤ (get_or s (at + k) 0 + get_or frame k 0) % 2 ^ 16

  -- the first `to` bytes fit
  abbrev pub Fit : ℕ → Type 0
  Fit to = (k : ℕ) → k < to → FitsAt k

  -- what the first k places add to the index: the low half of a digit's byte is the level
  unfoldable pub counted : ℕ → ℕ
  counted zero = 0
  counted (suc k) = counted k + (get_or s (at + k) 0 % 16) * get_or frame (256 + k) 0

  pub counted_next : (k : ℕ) → counted (k + 1) ≡ counted k + (get_or s (at + k) 0 % 16) * get_or frame (256 + k) 0
  unfolding counted
  counted_next k = rw add-one refl

  pub counted_adds : (k sum r : ℕ) → sum ≡ counted k % 2 ^ 16 → r ≡ (sum + (get_or s (at + k) 0 % 16) * get_or frame (256 + k) 0) % 2 ^ 16
      → r ≡ counted (k + 1) % 2 ^ 16
  counted_adds k sum r so_far adds = omega (arith, so_far, adds, counted_next k)

  -- places without weight add nothing
  pub counted_on : (j : ℕ) → ((k : ℕ) → j ≤ k → get_or frame (256 + k) 0 ≡ 0) → (k : ℕ) → counted (j + k) ≡ counted j
  counted_on j none zero = ap counted (omega arith)
  counted_on j none (suc k) =
      let one : j + suc k ≡ j + k + 1 = omega arith in
      let here : (get_or s (at + (j + k)) 0 % 16) * get_or frame (256 + (j + k)) 0 ≡ 0 = rw (none (j + k) (omega arith)) (mul-zero _) in
      rw one (counted_next (j + k) ∙ omega (arith, here, counted_on j none k))

  -- the sum of the first `count` bytes, if they fit
  pub record Fitted (count r : ℕ) : Type 0 where
    pub fit : Fit count
    pub sum : r ≡ counted count % 2 ^ 16

-- this many places, rounded up to whole steps of sixteen
abbrev pub in_steps : ℕ → ℕ
in_steps width = (width + 15) / 16 * 16

pub steps_bounds : (width : ℕ) → width ≤ most_laid → (width ≤ in_steps width) × (in_steps width ≤ most_laid)
steps_bounds width most = (omega arith, omega (arith, most))

-- the row at `at` matches its frame, with room for whole steps, and its ink is at `width`
pub record InFrame (s : List ℕ) (at : ℕ) (frame : List ℕ) (width r : ℕ) : Type 0 where
  pub some : 0 < width
  pub room : at + in_steps width < length s
  pub fitted : Fitted s at frame (in_steps width) r
  pub other : get_or s (at + width) 0 ≡ space_byte → ⊥

pub in_frame : (s : List ℕ) (at : ℕ) (frame : List ℕ) (width : ℕ) → 0 < width → at + in_steps width < length s → (get_or s (at + width) 0 ≡ space_byte → ⊥)
    → (r : Option ℕ) → IfSome r (Fitted s at frame (in_steps width)) → IfSome r (InFrame s at frame width)
in_frame s at frame width some room other (Some r) fitted = record { some = some; room = room; fitted = fitted; other = other }
in_frame s at frame width some room other None _ = tt
