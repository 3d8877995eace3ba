-- One group after the other: what a step requires and what it records.
-- Assumes nothing.
use Rattle.std.specs.Prelude.{◌<◌, ◌≤◌, ◌+◌, ◌^◌, ◌*◌, ◌≡◌}
use Rattle.laws.specs.Prelude.{ℕ, suc, zero, ◌∙◌, sym, ap, refl, true, false, List, mul-le-mul_right, pow-suc, mul_comm}
use Rattle.laws.specs.Prelude.{mul_assoc, pow-le-pow_left, add-one, dec_lt, arith, length, get_or, pow_mono, pow_pos}
use Rattle.rules.specs.Groups.Groups.{member, others}
use Rattle.rules.specs.Calls.Answers.{ink_in}
use Rattle.rules.specs.Nets.Leaves.{matters}
use Rattle.rules.specs.Nets.Trees.{Apart}
use Rattle.trees.specs.Groups.Reps.{Listed}
use Rattle.trees.specs.Groups.Told.{Told}
use Rattle.radix.specs.Weights.{Weights}
use Rattle.radix.specs.Widths.{most_members, most_offsets}
use Rattle.representatives.specs.Known.{RepFew, Known, Found}

-- bounds on the numbers, and arrays that are long enough
pub record Work (m n : ℕ) (cells weights counts kept xs ys firsts : List ℕ) : Type 0 where
  pub levels : 1 < m
  pub inputs : n ≤ most_members
  pub small : m ^ n ≤ most_offsets
  pub for_cells : m ^ n ≤ length cells
  pub weighed : Weights m n weights
  pub all_weighed : n ≤ length weights
  pub for_counts : 2 ^ n ≤ length counts
  pub for_kept : 2 ^ n * m ≤ length kept
  pub for_xs : m ^ n ≤ length xs
  pub for_ys : m ^ n ≤ length ys
  pub for_firsts : m < length firsts

-- m places for each group are at most twice as many as the cells
pub places_fit : (m n : ℕ) → 1 < m → 0 < n → 2 ^ n * m ≤ 2 * m ^ n
places_fit m zero levels some = absurd (omega arith)
places_fit m (suc n) levels some =
    omega (
      arith,
      mul-le-mul_right m (pow-le-pow_left levels n),
      pow-suc m n,
      ap (λ (k : ℕ). k * m) (pow-suc 2 n) ∙ mul_assoc (2 ^ n) 2 m ∙ ap (λ (k : ℕ). 2 ^ n * k) (mul_comm 2 m) ∙ sym (mul_assoc (2 ^ n) m 2),
    )

-- `past` is a power of two that is at least g and at most 2g; it is 1 if g is 0
pub record Near (n g past : ℕ) : Type 0 where
  pub end : ℕ
  pub is : past ≡ 2 ^ end
  pub low : end ≤ n
  pub reached : g ≤ past
  pub half : 0 < g → past ≤ g + g
  pub first : g ≡ 0 → past ≡ 1

-- this holds for the first group, ..
pub near_none : (n : ℕ) → Near n 0 1
near_none n = record { end = 0; is = refl; low = omega arith; reached = omega arith; half = λ h. absurd (omega arith); first = λ _. refl }

-- .. for the next one, ..
pub near_next : {n g past : ℕ} → Near n g past → g < past → Near n (g + 1) past
near_next {n} {g} {past} near h =
    record { end = near.end; is = near.is; low = near.low; reached = omega arith; half = λ _. at (dec_lt 0 g); first = λ e. absurd (omega arith) }
  where
    at : Dec (0 < g) → past ≤ g + 1 + (g + 1)
    at (yes some) = omega (arith, near.half some)
    at (no none) = omega (arith, near.first (omega arith))

-- .. and for twice that power once g reaches it
pub near_twice : {n g past : ℕ} → Near n g past → g ≡ past → g < 2 ^ n → Near n g (past + past)
near_twice {n} {g} {past} near e g< =
    record {
      end = near.end + 1;
      is = omega (arith, near.is, pow-suc 2 near.end, ap (λ (k : ℕ). 2 ^ k) (add-one near.end));
      low = below (dec_lt near.end n);
      reached = omega arith;
      half = λ _. omega arith;
      first = λ none. absurd (omega (arith, near.is, pow_pos near.end));
    }
  where
    below : Dec (near.end < n) → near.end + 1 ≤ n
    below (yes h) = omega arith
    below (no h) = absurd (omega (arith, near.is, pow_mono {i = n} {j = near.end} (omega arith)))

-- no member of a group matters
abbrev pub AllIdle : ℕ → ℕ → (ℕ → ℕ) → ℕ → Type 0
AllIdle m n f idle = (i : ℕ) → i < n → member i idle ≡ true → matters m n f i ≡ false

-- g is the next group without idle inputs, all such groups below it are known, and `past` is the group of the input after its last member
pub record NextStep (m n : ℕ) (f : ℕ → ℕ) (counts kept : List ℕ) (idle g past : ℕ) : Type 0 where
  pub all_idle : AllIdle m n f idle
  pub group : g < 2 ^ n
  pub apart : Apart n g idle
  pub known : (h : ℕ) → h < g → Apart n h idle → Known m n f counts kept h
  pub near : Near n g past
  pub above : g < past

-- rows that cover g and columns that cover the other inputs
pub record Judging (m n : ℕ) (cells xs ys : List ℕ) (g from : ℕ) (kept : List ℕ) (length_firsts : ℕ) : Type 0 where
  pub levels : 1 < m
  pub inputs : n ≤ most_members
  pub group : g < 2 ^ n
  pub some : 0 < g
  pub lower : from < g
  pub for_cells : m ^ n ≤ length cells
  pub for_kept : g * m + m ≤ length kept
  pub for_firsts : m < length_firsts
  pub rows : Listed m n (ink_in cells) g xs
  pub columns : Listed m n (ink_in cells) (others n g) ys

-- g has few classes, or too many, and then `from` is recorded for it
pub record RepJudged (m n : ℕ) (f : ℕ → ℕ) (g from : ℕ) (before : List ℕ) (count : ℕ) (after : List ℕ) : Type 0 where
  pub below : (j : ℕ) → j < g * m → get_or after j 0 ≡ get_or before j 0
  pub few : 0 < count → RepFew m n f after g count
  pub many : count ≡ 0 → Told m n f g (get_or after (g * m) 0) (m + 1)
  pub base : count ≡ 0 → get_or after (g * m + 1) 0 ≡ from

-- what is recorded for the groups below is unchanged, and g is found
pub record RepStepped (m n : ℕ) (f : ℕ → ℕ) (counts before : List ℕ) (g count : ℕ) (after : List ℕ) : Type 0 where
  pub below : (j : ℕ) → j < g * m → get_or after j 0 ≡ get_or before j 0
  pub found : Found m n f counts after g count
