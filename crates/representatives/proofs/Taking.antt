-- The loop of `source` over plain numbers: the members still to be tried are members of g, and so is the best so far.
-- Assumes nothing.
use Rattle.std.specs.Prelude.{◌<◌, ◌≤◌, ◌-◌, ◌^◌, ◌≡◌}
use Rattle.laws.specs.Prelude.{ℕ, subst⁻¹, true, arith, pow_pos}
use Rattle.rules.specs.Groups.Marks.{inside}
use Rattle.rules.specs.Nets.Wirings.{first_input}
use Rattle.trees.specs.Groups.Members.{member_inside, first_member}
use Rattle.trees.specs.Trees.MarkTwo.{inside_trans}
use Rattle.trees.specs.Groups.TakenOff.{off_inside}
use Rattle.radix.specs.Parts.{without_first}
use Rattle.representatives.specs.Sources.{OneOf, first_one}

-- `without` is `rest` without its first-listed member
abbrev pub Without : ℕ → ℕ → Type 0
Without rest without = (n : ℕ) → rest < 2 ^ n → without ≡ rest - 2 ^ first_input n rest

pub record Takes (g rest best : ℕ) : Type 0 where
  pub low : rest ≤ g
  pub left : (n : ℕ) → g < 2 ^ n → inside n rest g ≡ true
  pub is : (n : ℕ) → g < 2 ^ n → OneOf n g best

module _ {g rest best : ℕ} (so_far : Takes g rest best) (more : 0 < rest) {without : ℕ} (off : Without rest without) where
  -- the first-listed of those that remain
  pub takes_one : (n : ℕ) → g < 2 ^ n → OneOf n g (rest - without)
  takes_one n g< =
      let rest< : rest < 2 ^ n = omega (arith, so_far.low) in
      first_one n g rest without g< rest< more (so_far.left n g<) (off n rest<) (without_first n rest more rest<).0

  -- it is not 0, and is removed
  pub takes_less : g < 2 ^ 64 → (0 < rest - without) × (without ≤ rest) × (without < rest)
  takes_less fits =
      let rest< : rest < 2 ^ 64 = omega (arith, so_far.low) in
      omega (arith, off 64 rest<, (without_first 64 rest more rest<).0, pow_pos (first_input 64 rest))

  -- the next one is tried
  pub takes_next : g < 2 ^ 64 → (next : ℕ) → ((n : ℕ) → g < 2 ^ n → OneOf n g next) → Takes g without next
  takes_next fits next one =
      record {
        low = omega (arith, so_far.low, takes_less fits);
        left = λ n g<.
            let rest< : rest < 2 ^ n = omega (arith, so_far.low) in
            let first = first_member n rest rest< more in
            inside_trans n without rest g (subst⁻¹ (λ (k : ℕ). inside n k rest ≡ true) (off n rest<)
            (off_inside n rest (first_input n rest) rest< first.0 first.1)) (so_far.left n g<);
        is = one;
      }

-- all remain
pub takes_none : (g : ℕ) → 0 < g → {without : ℕ} → Without g without → Takes g g (g - without)
takes_none g some {without} off =
    record {
      low = omega arith;
      left = λ n g<. whole n;
      is = λ n g<. first_one n g g without g< g< some (whole n) (off n g<) (without_first n g some g<).0;
    }
  where
    whole : (n : ℕ) → inside n g g ≡ true
    whole n = member_inside n g g (λ i i< e. e)
