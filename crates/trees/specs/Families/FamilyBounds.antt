-- Every count fits into 64 bits: a group of k members has at most (2k − 3)!! trees, for k up to the most inputs that a sheet may have. For each size
-- of A, the group has as many splits as there are ways to choose the other members of A.
-- Assumes nothing.
use Rattle.std.specs.Prelude.{◌<◌, ◌+◌, ◌-◌, ◌^◌, ◌*◌, ◌%◌, ◌/◌, ◌≡◌, ◌&&◌, ◌||◌, ◌∷◌}
use Rattle.laws.specs.Prelude.{ℕ, suc, zero, ◌∙◌, sym, ap, refl, ap₂, true, false, Bool, not, cond}
use Rattle.laws.specs.Prelude.{and-false, and-true, List, [], map, zero-add, add-zero, arith}
use Rattle.laws.specs.Prelude.{test_cases}
use Rattle.rules.specs.Groups.Groups.{member, size}
use Rattle.rules.specs.Groups.Marks.{inside}
use Rattle.rules.specs.Limits.{most_inputs}
use Rattle.rules.specs.Lists.{range, all, those}
use Rattle.rules.specs.Nets.Wirings.{first_input}
use Rattle.laws.specs.Lists.Tests.{one_where, all_cons}
use Rattle.laws.specs.Lists.Ranges.{range_shift}
use Rattle.laws.specs.Lists.Sums.{sum_to, sum_same, sum_both, sum_pairs}
use Rattle.trees.specs.Groups.Members.{low_bit, low_member, member_suc, size_suc, first_odd, first_even}

-- ---- the parts of a group by their size

-- the sum of h, at the size of a set, over all subsets of k things
unfoldable pub over_sets : ℕ → (ℕ → ℕ) → ℕ
over_sets zero h = h 0
over_sets (suc k) h = over_sets k h + over_sets k (λ j. h (suc j))

-- a test of a function's values
all_map : {A B : Type 0} (f : A → B) (t : B → Bool) (xs : List A) → all t (map f xs) ≡ all (λ x. t (f x)) xs
unfolding all
all_map f t [] = refl
all_map f t (x ∷ xs) = all_cons t (f x) (map f xs) ∙ ap (λ (b : Bool). t (f x) && b) (all_map f t xs) ∙ sym (all_cons (λ x. t (f x)) x xs)

-- `inside` by the lowest bit and the half
inside_half : (n a g : ℕ) → inside (suc n) a g ≡ ((not (member 0 a) || member 0 g) && inside n (a / 2) (g / 2))
unfolding inside range
inside_half n a g = simp (all_cons (λ i. not (member i a) || member i g) 0, range_shift 0 n, all_map suc (λ i. not (member i a) || member i g), member_suc)

-- a number that is twice another, and one more than that
module _ (b : ℕ) where
  even_half : (b + b) / 2 ≡ b
  even_half = omega arith

  odd_half : suc (b + b) / 2 ≡ b
  odd_half = omega arith

  even_low : member 0 (b + b) ≡ false
  even_low = low_member (b + b) false (omega arith)

  odd_low : member 0 (suc (b + b)) ≡ true
  odd_low = low_member (suc (b + b)) true (omega arith)

  even_size : (n : ℕ) → size (suc n) (b + b) ≡ size n b
  even_size n = rw (size_suc, even_half) (omega arith)

  odd_size : (n : ℕ) → size (suc n) (suc (b + b)) ≡ suc (size n b)
  odd_size n = rw (size_suc, odd_half) (omega arith)

-- twice as many groups
twice : (n : ℕ) → 2 ^ suc n ≡ 2 ^ n + 2 ^ n
twice n = omega arith

-- h at the size of a, if a is a part of g
in_part : ℕ → ℕ → (ℕ → ℕ) → ℕ → ℕ
in_part n g h a = cond (inside n a g) (h (size n a)) 0

-- .. that holds the first-listed input of g
unfoldable pub in_first : ℕ → ℕ → (ℕ → ℕ) → ℕ → ℕ
in_first n g h a = cond (inside n a g && member (first_input n g) a) (h (size n a)) 0

module _ (n g : ℕ) (h : ℕ → ℕ) (b : ℕ) where
  part_even : in_part (suc n) g h (b + b) ≡ in_part n (g / 2) h b
  unfolding in_part
  part_even = rw (inside_half, even_low, even_half, even_size)

  part_odd : member 0 g ≡ true → in_part (suc n) g h (suc (b + b)) ≡ in_part n (g / 2) (λ j. h (suc j)) b
  unfolding in_part
  part_odd e = rw (inside_half, odd_low, odd_half, odd_size, e)

  part_none : member 0 g ≡ false → in_part (suc n) g h (suc (b + b)) ≡ 0
  unfolding in_part
  part_none e = rw (inside_half, odd_low, e)

-- the sum over the parts of a group of k members is the sum over all subsets of k things
over_parts : (n g : ℕ) (h : ℕ → ℕ) → sum_to (in_part n g h) (2 ^ n) ≡ over_sets (size n g) h
unfolding sum_to over_sets in_part inside size those range all
over_parts zero g h = omega arith
over_parts (suc n) g h = rw (twice, sum_pairs, size_suc, low_bit) (go (member 0 g) refl (over_parts n (g / 2)))
  where
    go : (t : Bool) → member 0 g ≡ t → ((h : ℕ → ℕ) → sum_to (in_part n (g / 2) h) (2 ^ n) ≡ over_sets (size n (g / 2)) h)
        → sum_to (λ b. in_part (suc n) g h (b + b) + in_part (suc n) g h (suc (b + b))) (2 ^ n) ≡ over_sets (one_where t + size n (g / 2)) h
    go true e below =
        let next : 1 + size n (g / 2) ≡ suc (size n (g / 2)) = omega arith in
        sum_same _ (λ b. in_part n (g / 2) h b + in_part n (g / 2) (λ j. h (suc j)) b) (2 ^ n) (λ b l. ap₂ ◌+◌ (part_even n g h b) (part_odd n g h b e))
        ∙ sum_both (in_part n (g / 2) h) (in_part n (g / 2) (λ j. h (suc j))) (2 ^ n)
        ∙ ap₂ ◌+◌ (below h) (below (λ j. h (suc j)))
        ∙ rw next
    go false e below =
        sum_same _ (in_part n (g / 2) h) (2 ^ n) (λ b l. ap₂ ◌+◌ (part_even n g h b) (part_none n g h b e) ∙ add-zero _)
        ∙ below h ∙ rw zero-add

-- ---- the parts that hold the first-listed input

module _ (n g : ℕ) (h : ℕ → ℕ) (b : ℕ) where
  -- if that is input 0: the odd ones
  first_odd_even : member 0 g ≡ true → in_first (suc n) g h (b + b) ≡ 0
  unfolding in_first
  first_odd_even e = rw (first_odd n g e, even_low, and-false)

  first_odd_odd : member 0 g ≡ true → in_first (suc n) g h (suc (b + b)) ≡ in_part n (g / 2) (λ j. h (suc j)) b
  unfolding in_first in_part
  first_odd_odd e = rw (first_odd n g e, odd_low, and-true, inside_half, odd_low, odd_half, odd_size, e)

  -- otherwise the even ones
  first_even_even : member 0 g ≡ false → in_first (suc n) g h (b + b) ≡ in_first n (g / 2) h b
  unfolding in_first
  first_even_even e = rw (first_even n g e, member_suc, inside_half, even_low, even_half, even_size)

  first_even_odd : member 0 g ≡ false → in_first (suc n) g h (suc (b + b)) ≡ 0
  unfolding in_first
  first_even_odd e = rw (inside_half, odd_low, e)

-- the sum over those is the sum over all subsets of the other members; A has one more
pub over_firsts : (n g : ℕ) (h : ℕ → ℕ) → g < 2 ^ n → 0 < g → sum_to (in_first n g h) (2 ^ n) ≡ over_sets (size n g - 1) (λ j. h (suc j))
over_firsts zero g h g< some = absurd (omega arith)
over_firsts (suc n) g h g< some = rw (twice, sum_pairs) (test_cases (member 0 g)
    (λ e.
    let low : g % 2 ≡ 1 = low_bit g ∙ ap one_where e in
    let others : size (suc n) g - 1 ≡ size n (g / 2) = omega (arith, size_suc n g) in
    sum_same _ (in_part n (g / 2) (λ j. h (suc j))) (2 ^ n) (λ b l. ap₂ ◌+◌ (first_odd_even n g h b e) (first_odd_odd n g h b e) ∙ zero-add _)
    ∙ over_parts n (g / 2) (λ j. h (suc j)) ∙ rw others)
    (λ e.
    let low : g % 2 ≡ 0 = low_bit g ∙ ap one_where e in
    let same : size (suc n) g ≡ size n (g / 2) = omega (arith, size_suc n g) in
    sum_same _ (in_first n (g / 2) h) (2 ^ n) (λ b l. ap₂ ◌+◌ (first_even_even n g h b e) (first_even_odd n g h b e) ∙ add-zero _)
    ∙ over_firsts n (g / 2) h (omega arith) (omega arith) ∙ rw same))

-- ---- the bound

-- (2k − 3)!!, and 1 for one member: the number of trees on k inputs
unfoldable pub trees_on : ℕ → ℕ
trees_on zero = 0
trees_on (suc zero) = 1
trees_on (suc (suc k)) = (k + k + 1) * trees_on (suc k)

-- the trees of the two groups of a split, from the size of A
unfoldable pub split_trees : ℕ → ℕ → ℕ
split_trees k j = trees_on j * trees_on (k - j)

-- the largest, for 12 inputs
pub most_trees : trees_on most_inputs ≡ 13_749_310_575
unfolding trees_on
most_trees = refl
