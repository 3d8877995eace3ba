-- Assignments that cover a group, from those recorded for a group inside it.
-- Assumes nothing.
use Rattle.std.specs.Prelude.{◌<◌, ◌≤◌, ◌+◌, ◌-◌, ◌^◌, ◌*◌, ◌≡◌}
use Rattle.laws.specs.Prelude.{ℕ, ◌∙◌, sym, ap, true, List, zero-add, mul-le-mul_right, le_trans, pow-le-pow_right}
use Rattle.laws.specs.Prelude.{arith, length, get_or, pow-add}
use Rattle.rules.specs.Groups.Groups.{size, part}
use Rattle.rules.specs.Groups.Marks.{inside}
use Rattle.trees.specs.Groups.Members.{rest_apart, size_join, size_le}
use Rattle.trees.specs.Groups.Covers.{Covers, covers_same}
use Rattle.radix.specs.Weights.{Weights}
use Rattle.radix.specs.Widths.{most_members, most_offsets}
use Rattle.representatives.specs.Copies.{Copied}
use Rattle.representatives.specs.Spreads.{Spreading, Spread}

-- what `cover` requires
pub record Covering (m n : ℕ) (weights counts kept : List ℕ) (from to : ℕ) (out : List ℕ) : Type 0 where
  pub levels : 0 < m
  pub inputs : n ≤ most_members
  pub small : m ^ n ≤ most_offsets
  pub weighed : Weights m n weights
  pub all_weighed : n ≤ length weights
  pub part_of : inside n from to ≡ true
  pub part_le : from ≤ to
  pub group : to < 2 ^ n
  pub counted : from < length counts
  pub stored : from * m + get_or counts from 0 ≤ length kept
  pub some : 0 < get_or counts from 0
  pub fits : get_or counts from 0 ≤ m ^ size n from
  pub own : (k : ℕ) → k < get_or counts from 0 → part m n from (get_or kept (from * m + k) 0) ≡ get_or kept (from * m + k) 0
  pub room : m ^ n ≤ length out

-- what `cover` returns: `count` assignments that cover the group `to`, for every table
pub record Covered (m n : ℕ) (counts kept : List ℕ) (from to : ℕ) (out : List ℕ) (count : ℕ) : Type 0 where
  pub inside_out : count ≤ length out
  pub cover : (f : ℕ → ℕ) → Covers m n f from (get_or counts from 0) (λ k. get_or kept (from * m + k) 0) → Covers m n f to count (λ k. get_or out k 0)

module _ {m n : ℕ} {weights counts kept : List ℕ} {from to : ℕ} {out : List ℕ} (asked : Covering m n weights counts kept from to out) where
  -- there are at most as many assignments as the group has, ..
  pub covering_fits : get_or counts from 0 * m ^ size n (to - from) ≤ length out
  covering_fits =
      le_trans (mul-le-mul_right (m ^ size n (to - from)) asked.fits)
      (omega (
        arith,
        sym (pow-add m (size n from) (size n (to - from))) ∙ ap (λ (k : ℕ). m ^ k) sizes,
        pow-le-pow_right asked.levels (size_le n to),
        asked.room,
      ))
    where
      whole : from + (to - from) ≡ to
      whole = omega (arith, asked.part_le)

      sizes : size n from + size n (to - from) ≡ size n to
      sizes =
          sym (size_join n from (to - from) (omega (arith, asked.part_le, asked.group)) (omega (arith, asked.group))
          (rest_apart n from to (omega (arith, asked.part_le, asked.group)) asked.group asked.part_of))
          ∙ ap (size n) whole

  -- .. so there is room for those that are recorded
  pub covering_room : get_or counts from 0 ≤ length out
  covering_room = le_trans asked.fits (le_trans (pow-le-pow_right asked.levels (size_le n from)) asked.room)

  module _ {copies : List ℕ} (copied : Copied kept (from * m) out 0 (get_or counts from 0) copies) (long : length copies ≡ length out) where
    entry : (k : ℕ) → k < get_or counts from 0 → get_or kept (from * m + k) 0 ≡ get_or copies k 0
    entry k h = sym (copied.copied k h) ∙ ap (λ (j : ℕ). get_or copies j 0) (zero-add k)

    -- copied to the front, they may be spread, ..
    pub covering_spreading : Spreading m n weights from to copies (get_or counts from 0)
    covering_spreading =
        record {
          levels = asked.levels;
          inputs = asked.inputs;
          small = asked.small;
          weighed = asked.weighed;
          all_weighed = asked.all_weighed;
          part_of = asked.part_of;
          part_le = asked.part_le;
          group = asked.group;
          some = asked.some;
          own = λ k h. rw entry at (asked.own k h);
          room = omega (arith, covering_fits);
        }

    -- .. and then they cover
    pub covering_covered : {after : List ℕ} {count : ℕ} → Spread m n from to copies (get_or counts from 0) after count → length after ≡ length copies
        → Covered m n counts kept from to after count
    covering_covered spread longer =
        record {
          inside_out = omega (arith, covering_fits, spread.times);
          cover = λ f c. spread.cover f (covers_same m n asked.levels f from (get_or counts from 0) _ _ entry c);
        }
