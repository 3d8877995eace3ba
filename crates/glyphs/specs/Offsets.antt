-- An offset plus the largest one, and where an input's levels begin in the framed picture.
-- Assumes nothing.
use Rattle.laws.specs.Prelude.{ℕ, suc, zero, ◌∙◌, ap, refl, Bool, cond, List}
use Rattle.laws.specs.Prelude.{ℕ_discrete, dec_le, arith, leb, length, get_or, set, length-set, get_or-set_same, get_or-set_other}
use Rattle.laws.specs.Prelude.{lt-ltb, le-ltb, le-leb}
use Rattle.std.specs.Prelude.{ℤ, pos, negsuc, ◌+ℤ◌, nat_abs, ◌<◌, ◌≤◌, ◌+◌, ◌-◌, ◌^◌, ◌*◌, ◌≡◌, ◌&&◌}
use Rattle.std.specs.List.{list_all}
use Rattle.std.specs.Int.{w8}
use Rattle.std.specs.Int.Signed.{mag}
use Rattle.std.proofs.Math.IntN.{sub_ℕ}
use Rattle.std.proofs.Common.{of_z, to_z, to_z-of_z}
use Rattle.std.proofs.lemmas.List.Recursion.{same_from_clauses}
use Rattle.rules.specs.Lists.{all}
use Rattle.rules.specs.Calls.Glyphs.{most_side, most_offset, across, down}
use Rattle.laws.specs.Calls.Glyphs.{AreOffsets}
use Rattle.laws.specs.Lists.Tests.{all_cons}
use Rattle.nets.specs.Room.{most_wires}

-- the distance between rows of the framed picture
abbrev pub span_of : ℕ → ℕ
span_of width = width + 2 * most_offset

abbrev pub most_span : ℕ
most_span = span_of most_side

-- 2 plus the offset, 0 to 4, if the offset is near; 5 otherwise
unfoldable pub reach : ℤ → ℕ
reach (pos k) = cond (leb k 2) (k + 2) 5
reach (negsuc k) = cond (leb k 1) (1 - k) 5

abbrev pub all_near : List ℤ → Bool
all_near offsets = all (λ o. leb (nat_abs o) most_offset) offsets

-- where input i's levels begin for row y
abbrev pub start_of : List ℤ → ℕ → ℕ → ℕ → ℕ
start_of offsets span y i = (y + reach (down offsets i)) * span + reach (across offsets i)

-- ---- near and far

pub reach_near : (z : ℤ) → nat_abs z ≤ most_offset → reach z ≤ 4
unfolding reach
reach_near (pos k) h = rw (le-leb k 2 h) (omega arith)
reach_near (negsuc k) h = let low : k ≤ 1 = omega arith in rw (le-leb k 1 low) (omega arith)

-- the cell at this offset, counted from two cells before the first
pub moved : (x : ℕ) (z : ℤ) → nat_abs z ≤ most_offset → pos x +ℤ z ≡ sub_ℕ (x + reach z) 2
unfolding reach
moved x (pos k) h =
    rw (le-leb k 2 h, le-ltb (x + (k + 2)) 2 (omega arith))
    (ap pos (let e : x + k ≡ x + (k + 2) - 2 = omega arith in e))
moved x (negsuc k) h = go (dec_le (suc k) x)
  where
    low : k ≤ 1
    low = omega arith

    go : Dec (suc k ≤ x) → sub_ℕ x (suc k) ≡ sub_ℕ (x + cond (leb k 1) (1 - k) 5) 2
    go (yes inside) =
        rw (le-leb k 1 low, le-ltb x (suc k) inside, le-ltb (x + (1 - k)) 2 (omega arith))
        (ap pos (let e : x - suc k ≡ x + (1 - k) - 2 = omega arith in e))
    go (no outside) =
        rw (le-leb k 1 low, lt-ltb x (suc k) (omega arith), lt-ltb (x + (1 - k)) 2 (omega arith))
        (ap negsuc (let e : suc k - suc x ≡ 2 - suc (x + (1 - k)) = omega arith in e))

-- a near offset plus the largest one, as the code computes it
pub reach_moved : (z : ℤ) → nat_abs z ≤ most_offset → nat_abs (to_z w8 (of_z w8 (to_z w8 (of_z w8 z) +ℤ pos 2))) ≡ reach z
unfolding reach
reach_moved (pos zero) h = refl
reach_moved (pos (suc zero)) h = refl
reach_moved (pos (suc (suc zero))) h = refl
reach_moved (pos (suc (suc (suc k)))) h = absurd (omega arith)
reach_moved (negsuc zero) h = refl
reach_moved (negsuc (suc zero)) h = refl
reach_moved (negsuc (suc (suc k))) h = absurd (omega arith)

-- an element of a slice, from its bits
pub element : (z : ℤ) → mag z < 2 ^ 7 → to_z w8 (of_z w8 z) ≡ z
element z small = to_z-of_z {w = w8} (record { sfits = small })

-- a near offset of a slice, as the code reads it
pub near_read : (z : ℤ) → nat_abs z ≤ most_offset → to_z w8 (of_z w8 z) ≡ z
near_read (pos zero) h = refl
near_read (pos (suc zero)) h = refl
near_read (pos (suc (suc zero))) h = refl
near_read (pos (suc (suc (suc k)))) h = absurd (omega arith)
near_read (negsuc zero) h = refl
near_read (negsuc (suc zero)) h = refl
near_read (negsuc (suc (suc k))) h = absurd (omega arith)

-- the test of all offsets, in the words of std
pub near_all : (offsets : List ℤ) → list_all (λ o. leb (nat_abs o) most_offset) offsets ≡ all_near offsets
unfolding all
near_all offsets = same_from_clauses (list_all near) (all near) (λ o r. near o && r) refl (λ o os. refl) (λ o os. all_cons near o os) offsets
  where
    near : ℤ → Bool
    near o = leb (nat_abs o) most_offset

-- ---- where the inputs' levels begin

module _ (n : ℕ) (offsets : List ℤ) (are : AreOffsets n offsets) (i : ℕ) (h : i < n) where
  pub across_there : 2 * i < length offsets
  across_there = omega (arith, are.count)

  pub down_there : 2 * i + 1 < length offsets
  down_there = omega (arith, are.count)

  pub across_small : nat_abs (across offsets i) ≤ most_offset
  unfolding across
  across_small = are.near (2 * i) across_there

  pub down_small : nat_abs (down offsets i) ≤ most_offset
  unfolding down
  down_small = are.near (2 * i + 1) down_there

  pub across_near : reach (across offsets i) ≤ 4
  across_near = reach_near _ across_small

  pub down_near : reach (down offsets i) ≤ 4
  down_near = reach_near _ down_small

-- the first i inputs have their starts for row y
pub record StartsAt (offsets : List ℤ) (span y i : ℕ) (starts : List ℕ) : Type 0 where
  pub room : length starts ≡ most_wires
  pub each : (j : ℕ) → j < i → get_or starts j 0 ≡ start_of offsets span y j

-- one more input
pub glyph_starts_more : (offsets : List ℤ) (span y i : ℕ) (starts : List ℕ) → StartsAt offsets span y i starts → i < most_wires → (start : ℕ)
    → start ≡ start_of offsets span y i → StartsAt offsets span y (i + 1) (set starts i start)
glyph_starts_more offsets span y i starts at low start is =
    record { room = length-set starts i start ∙ at.room; each = λ j h. go j h (ℕ_discrete j i) }
  where
    go : (j : ℕ) → j < i + 1 → Dec (j ≡ i) → get_or (set starts i start) j 0 ≡ start_of offsets span y j
    go j h (yes e) = rw e (get_or-set_same starts i start 0 (omega (arith, at.room)) ∙ is)
    go j h (no other) = get_or-set_other starts i j start 0 other ∙ at.each j (omega arith)
