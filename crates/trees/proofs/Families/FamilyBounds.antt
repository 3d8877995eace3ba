-- The theorems of Families/FamilyBounds that rest on a definition which a must-fail edit changes: they stand here, so that the edit leaves specs/ readable.
-- Assumes nothing.
use Rattle.std.specs.Prelude.{◌<◌, ◌≤◌, ◌+◌, ◌-◌, ◌^◌, ◌≡◌, ◌≢◌}
use Rattle.laws.specs.Prelude.{ℕ, suc, zero, refl, true}
use Rattle.laws.specs.Prelude.{List, map, mul-le-mul, dec_lt, ℕ_discrete, arith, ltb, leb, length}
use Rattle.laws.specs.Prelude.{get_or-eq_default, leb-true, ltb-true, by_cases}
use Rattle.rules.specs.Groups.Groups.{size}
use Rattle.rules.specs.Limits.{most_inputs}
use Rattle.rules.specs.Lists.{range, all, those, total}
use Rattle.rules.specs.Nets.Family.{splits_of, split_count, counts_of}
use Rattle.rules.specs.Nets.SettledLaws.{MayBeA}
use Rattle.laws.specs.Lists.Tests.{all_mem}
use Rattle.laws.specs.Lists.Ranges.{mem_range}
use Rattle.laws.specs.Lists.Sums.{sum_to, sum_more, total_sum}
use Rattle.trees.specs.Groups.Members.{size_le, size_pos}
use Rattle.trees.specs.Trees.MarkTwo.{is_a}
use Rattle.trees.specs.Families.FamilyCounts.{split_is, group_trees, split_counted, counts_length, count_single, count_several, counted_two, counted_some}
use Rattle.trees.specs.Families.Families.{split_a_below, split_b_below, split_sizes}
use Rattle.trees.specs.Families.FamilyBounds.{in_first, over_firsts, over_sets, split_trees, trees_on}

-- ---- the bound

-- over all splits of k members, up to the limit
splits_fit : all (λ k. leb (over_sets (k - 1) (λ j. split_trees k (suc j))) (trees_on k)) (range 0 (most_inputs + 1)) ≡ true
unfolding all range over_sets split_trees trees_on
splits_fit = refl

trees_fit : all (λ k. ltb (trees_on k) (2 ^ 64)) (range 0 (most_inputs + 1)) ≡ true
unfolding all range trees_on
trees_fit = refl

module _ (n : ℕ) (marks : List ℕ) where
  -- the count of a split whose two groups meet the bound
  split_bound : (g a : ℕ) → g < 2 ^ n → MayBeA n marks g a
      → group_trees n marks a ≤ trees_on (size n a) → group_trees n marks (g - a) ≤ trees_on (size n (g - a))
      → split_counted n marks g a ≤ in_first n g (split_trees (size n g)) a
  unfolding split_count in_first split_trees
  split_bound g a g< split of_a of_b_lem =
      let rest : size n g - size n a ≡ size n (g - a) = omega (arith, (split_sizes n marks g a g< split).0) in
      rw (split.part, split.holds_first, rest) (mul-le-mul of_a of_b_lem)

  -- the sum over its splits
  several_bound : (g : ℕ) → g < 2 ^ n → 0 < group_trees n marks g → size n g ≢ 1 → size n g ≤ most_inputs
      → ((a : ℕ) → MayBeA n marks g a → (group_trees n marks a ≤ trees_on (size n a)) × (group_trees n marks (g - a) ≤ trees_on (size n (g - a))))
      → group_trees n marks g ≤ trees_on (size n g)
  unfolding splits_of
  several_bound g g< some several small parts =
      let h : ℕ → ℕ = split_trees (size n g) in
      let has : 0 < g = counted_some n marks g g< some in
      let summed : total (map (split_counted n marks g) (those (is_a n marks g) (range 1 (g - 1)))) ≤ sum_to (in_first n g h) (suc (g - 1)) =
      total_sum (split_counted n marks g) (in_first n g h) (is_a n marks g) (g - 1)
      (λ a is. let split = split_is n marks g a is in split_bound g a g< split (parts a split).0 (parts a split).1) in
      let wider : sum_to (in_first n g h) (suc (g - 1)) ≤ sum_to (in_first n g h) (2 ^ n) = sum_more (in_first n g h) (suc (g - 1)) (2 ^ n) (omega arith) in
      let fits : over_sets (size n g - 1) (λ j. h (suc j)) ≤ trees_on (size n g) =
      leb-true _ _ (all_mem (λ k. leb (over_sets (k - 1) (λ j. split_trees k (suc j))) (trees_on k))
      (mem_range 0 (most_inputs + 1) (size n g) (omega arith) (omega arith)) splits_fit) in
      let counts = count_several n marks g g< (counted_two n marks g g< some) several in
      let over = over_firsts n g h g< has in
      omega arith

  -- a group of k members has at most (2k − 3)!! trees, for k up to the limit
  bounded : (k g : ℕ) → k ≤ most_inputs → g < 2 ^ n → size n g ≤ k → group_trees n marks g ≤ trees_on (size n g)
  bounded zero g k≤ g< small = by_cases (dec_lt 0 (group_trees n marks g))
      (λ some. absurd (omega (arith, size_pos n g g< (counted_some n marks g g< some))))
      (λ none. omega arith)
  bounded (suc k) g k≤ g< small = go (dec_lt 0 (group_trees n marks g)) (ℕ_discrete (size n g) 1) (λ a. bounded k a (omega arith))
    where
      go : Dec (0 < group_trees n marks g) → Dec (size n g ≡ 1) → ((a : ℕ) → a < 2 ^ n → size n a ≤ k → group_trees n marks a ≤ trees_on (size n a))
          → group_trees n marks g ≤ trees_on (size n g)
      go (no none) _ below = omega arith
      go (yes some) (yes one) below = rw one (unfold trees_on in omega (arith, count_single n marks g g< (counted_two n marks g g< some) one))
      go (yes some) (no several) below =
          several_bound g g< some several (omega arith) (λ a split.
          let sizes = split_sizes n marks g a g< split in
          (below a (split_a_below n marks g a g< split) (omega arith), below (g - a) (split_b_below n marks g a g< split) (omega arith)))

  -- A group of k members has at most (2k − 3)!! trees, ..
  pub count_bound : n ≤ most_inputs → (g : ℕ) → g < 2 ^ n → group_trees n marks g ≤ trees_on (size n g)
  count_bound n≤ g g< = bounded n g n≤ g< (size_le n g)

  -- .. which is less than 2 to the 64.
  pub group_trees_fit : n ≤ most_inputs → (g : ℕ) → group_trees n marks g < 2 ^ 64
  group_trees_fit n≤ g = elim (dec_lt g (2 ^ n)) [
    | yes g< ↦
        let fits : trees_on (size n g) < 2 ^ 64 =
        ltb-true _ _ (all_mem (λ k. ltb (trees_on k) (2 ^ 64)) (mem_range 0 (most_inputs + 1) (size n g) (omega arith) (omega (arith, size_le n g)))
        trees_fit) in
        omega (arith, count_bound n≤ g g<)
    | no past ↦
        let end : length (counts_of n marks) ≤ g = omega (arith, counts_length n marks) in
        rw (get_or-eq_default (counts_of n marks) 0 end) (omega arith)
  ]
