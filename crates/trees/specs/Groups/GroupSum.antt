-- "A group is a set of inputs, numbered by the sum of 2 to the power i over its members, where i is the place in line 3 from 0."
-- Assumes nothing.
use Rattle.std.specs.Prelude.{◌<◌, ◌+◌, ◌^◌, ◌*◌, ◌/◌, ◌≡◌, ◌∷◌}
use Rattle.laws.specs.Prelude.{ℕ, suc, zero, refl, true, false, Bool, cond, List, [], map, arith}
use Rattle.rules.specs.Groups.Groups.{member}
use Rattle.rules.specs.Lists.{range, those, total}
use Rattle.laws.specs.Lists.Ranges.{range_shift}
use Rattle.trees.specs.Groups.Members.{low_bit, member_suc}

-- the sum of 2 to the power i over the inputs that pass
abbrev pub powers : (ℕ → Bool) → List ℕ → ℕ
powers test inputs = total (map (λ i. 2 ^ i) (those test inputs))

pub powers_cons : (test : ℕ → Bool) (i : ℕ) (is : List ℕ) → powers test (i ∷ is) ≡ cond (test i) (2 ^ i) 0 + powers test is
unfolding total those
powers_cons test i is =
    elim (test i) as (λ t. total (map (λ j. 2 ^ j) (elim t [ true ↦ i ∷ those test is | false ↦ those test is ])) ≡ cond t (2 ^ i) 0 + powers test is) [
      | true ↦ refl
      | false ↦ omega arith
    ]

-- one place further, each power doubles
pub powers_shift : (test : ℕ → Bool) (is : List ℕ) → powers test (map suc is) ≡ 2 * powers (λ i. test (suc i)) is
unfolding total those
powers_shift test [] = refl
powers_shift test (i ∷ is) =
    omega (arith, powers_cons test (suc i) (map suc is), powers_cons (λ j. test (suc j)) i is, powers_shift test is, twice (test (suc i)))
  where
    twice : (t : Bool) → cond t (2 ^ suc i) 0 ≡ 2 * cond t (2 ^ i) 0
    twice true = let e : 2 ^ suc i ≡ 2 * 2 ^ i = omega arith in e
    twice false = refl

-- a group's number is the sum over its members
pub group_sum : (n g : ℕ) → g < 2 ^ n → powers (λ i. member i g) (range 0 n) ≡ g
unfolding total those range
group_sum zero g h = omega arith
group_sum (suc n) g h =
    omega (arith, powers_cons (λ i. member i g) 0 (range 1 n), low_bit g, later, group_sum n (g / 2) (omega arith))
  where
    later : powers (λ i. member i g) (range 1 n) ≡ 2 * powers (λ i. member i (g / 2)) (range 0 n)
    later = simp (range_shift 0 n, powers_shift, member_suc)
