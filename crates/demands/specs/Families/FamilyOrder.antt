-- Document 02, K3: "The order is by A's number, then A's tree, then B's." Defines the order of two trees by their shapes, without counts, and proves
-- that the wirings of a group's numbers follow it. Marks are any list here.
-- Assumes nothing.
use Rattle.std.specs.Prelude.{◌<◌, ◌≤◌, ◌+◌, ◌-◌, ◌^◌, ◌*◌, ◌%◌, ◌/◌, ◌≡◌, ◌⊎◌, ◌∷◌}
use Rattle.laws.specs.Prelude.{ℕ, suc, zero, ◌∙◌, sym, ap, refl, subst, inl, inr, true, false, Bool, cond}
use Rattle.laws.specs.Prelude.{List, [], map, Memᴰ, mem_head, mem_tail, suc-mul, mul-le-mul, mod-lt, div-add-mod', le_refl, dec_lt}
use Rattle.laws.specs.Prelude.{ℕ_discrete, arith, by_cases}
use Rattle.rules.specs.Groups.Groups.{size}
use Rattle.rules.specs.Lists.{range, those, total}
use Rattle.rules.specs.Nets.Family.{splits_of, Numbered, numbered_at}
use Rattle.rules.specs.Nets.Wirings.{Wiring, input, gate, group_of}
use Rattle.laws.specs.Lists.Ranges.{range_mem}
use Rattle.laws.specs.Lists.Finds.{those_mem}
use Rattle.laws.specs.Lists.Totals.{those_cons, numbered_here, numbered_later}
use Rattle.trees.specs.Trees.MarkTwo.{is_a}
use Rattle.trees.specs.Groups.Members.{size_pos}
use Rattle.trees.specs.Families.FamilyCounts.{group_trees, split_counted, count_single, count_several, counted_two, counted_some}
use Rattle.trees.specs.Families.Families.{wired, wired_several, split_a_below, split_b_below, split_sizes, SplitAt, number_split}
use Rattle.trees.proofs.Families.Families.{wiring_numbered_lem}

-- ---- the order

-- "The order is by A's number, then A's tree, then B's.": for two trees of one group, where A is the group on the left
abbrev pub Earlier : Wiring → Wiring → Type 0
Earlier (gate a b) (gate c d) = (group_of a < group_of c) ⊎ ((group_of a ≡ group_of c) × (Earlier a c ⊎ ((a ≡ c) × Earlier b d)))
Earlier (gate a b) (input j) = ⊥
Earlier (input i) v = ⊥

-- ---- numbers in a sequence of parts

-- each number is below all that follow it
abbrev Rises : List ℕ → Type 0
Rises [] = Unit {0}
Rises (x ∷ xs) = ((y : ℕ) → Memᴰ y xs → x < y) × Rises xs

those_rise : (test : ℕ → Bool) (from k : ℕ) → Rises (those test (range from k))
unfolding range those
those_rise test from zero = tt
those_rise test from (suc k) = rw (those_cons test from (range (suc from) k)) (go (test from) (those_rise test (suc from) k))
  where
    go : (t : Bool) → Rises (those test (range (suc from) k)) → Rises (cond t (from ∷ those test (range (suc from) k)) (those test (range (suc from) k)))
    go true rest = (λ y is. omega (arith, range_mem (suc from) k y (those_mem test (range (suc from) k) y is)), rest)
    go false rest = rest

-- a later number falls in a later part, or later in the same one
abbrev Onward : Numbered → Numbered → Type 0
Onward at to = (at.part < to.part) ⊎ ((at.part ≡ to.part) × (at.number < to.number))

module _ (count : ℕ → ℕ) where
  part_listed : (xs : List ℕ) (r : ℕ) → r < total (map count xs) → Memᴰ (numbered_at count xs r).part xs
  unfolding total
  part_listed [] r h = absurd (omega arith)
  part_listed (x ∷ xs) r h = by_cases (dec_lt r (count x))
      (λ here. rw (numbered_here count x xs r here) (mem_head refl))
      (λ past. rw (numbered_later count x xs r (omega arith)) (mem_tail (part_listed xs (r - count x) (omega arith))))

  numbers_onward : (xs : List ℕ) → Rises xs → (r s : ℕ) → r < s → s < total (map count xs) → Onward (numbered_at count xs r) (numbered_at count xs s)
  unfolding total
  numbers_onward [] rises r s h k = absurd (omega arith)
  numbers_onward (x ∷ xs) rises r s h k = go (dec_lt s (count x)) (dec_lt r (count x)) (numbers_onward xs rises.1 (r - count x) (s - count x))
    where
      go : Dec (s < count x) → Dec (r < count x)
          → (r - count x < s - count x → s - count x < total (map count xs) → Onward (numbered_at count xs (r - count x)) (numbered_at count xs (s - count x)))
          → Onward (numbered_at count (x ∷ xs) r) (numbered_at count (x ∷ xs) s)
      go (yes s_here) _ later = rw (numbered_here count x xs r (omega arith), numbered_here count x xs s s_here) (inr (refl, h))
      go (no s_later) (yes r_here) later =
          rw (numbered_here count x xs r r_here, numbered_later count x xs s (omega arith)) (inl (rises.0 _ (part_listed xs (s - count x) (omega arith))))
      go (no s_later) (no r_later) later =
          rw (numbered_later count x xs r (omega arith), numbered_later count x xs s (omega arith)) (later (omega arith) (omega arith))

-- ---- quotient, then remainder

quotients : (x y c : ℕ) → 0 < c → x < y → (x / c < y / c) ⊎ ((x / c ≡ y / c) × (x % c < y % c))
quotients x y c some less = go (dec_lt (x / c) (y / c)) (dec_lt (y / c) (x / c))
  where
    go : Dec (x / c < y / c) → Dec (y / c < x / c) → (x / c < y / c) ⊎ ((x / c ≡ y / c) × (x % c < y % c))
    go (yes h) _ = inl h
    go (no h) (no k) =
        let same : x / c ≡ y / c = omega arith in
        let lots : x / c * c ≡ y / c * c = ap (λ (q : ℕ). q * c) same in
        inr (same, omega (arith, lots, div-add-mod' x c, div-add-mod' y c))
    go (no h) (yes k) =
        let more : suc (y / c) * c ≤ x / c * c = mul-le-mul k (le_refl c) in
        absurd (omega (arith, suc-mul (y / c) c, mod-lt y some, div-add-mod' x c, div-add-mod' y c))

-- ---- wirings in the order of their numbers

module _ (n : ℕ) (marks : List ℕ) where
  splits_rise : (g : ℕ) → Rises (splits_of n marks g)
  unfolding splits_of
  splits_rise g = those_rise (is_a n marks g) 1 (g - 1)

  -- the tree of a split and a number in it
  abbrev parted : ℕ → ℕ → Numbered → Wiring
  parted fuel g at =
      gate (wired n marks fuel at.part (at.number / group_trees n marks (g - at.part)))
      (wired n marks fuel (g - at.part) (at.number % group_trees n marks (g - at.part)))

  -- the trees of smaller groups are in order
  abbrev pub InOrder : ℕ → Type 0
  InOrder fuel = (g r s : ℕ) → g < 2 ^ n → size n g ≤ fuel → r < s → s < group_trees n marks g → Earlier (wired n marks fuel g r) (wired n marks fuel g s)

  module _ (fuel g : ℕ) (g< : g < 2 ^ n) (enough : size n g ≤ suc fuel) where
    -- the group on the left is A
    left_group : (r : ℕ) (at : Numbered) → SplitAt n marks g r at
        → group_of (wired n marks fuel at.part (at.number / group_trees n marks (g - at.part))) ≡ at.part
    left_group r at is =
        (wiring_numbered_lem n marks fuel at.part _ (split_a_below n marks g at.part g< is.split)
        (omega (arith, split_sizes n marks g at.part g< is.split)) is.left
        ).family.of.1

    -- two numbers of one split: A's tree, then B's
    same_split : InOrder fuel → (r s : ℕ) (at : Numbered) (y : ℕ) → SplitAt n marks g r at → SplitAt n marks g s (record { part = at.part; number = y })
        → at.number < y → Earlier (parted fuel g at) (parted fuel g (record { part = at.part; number = y }))
    same_split below r s at y is to less =
        inr (left_group r at is ∙ sym (left_group s _ to), go (quotients at.number y (group_trees n marks (g - at.part)) is.rest_some less))
      where
        sizes : (size n g ≡ size n at.part + size n (g - at.part)) × (0 < size n at.part) × (0 < size n (g - at.part))
        sizes = split_sizes n marks g at.part g< is.split

        rest : ℕ
        rest = group_trees n marks (g - at.part)

        go : (at.number / rest < y / rest) ⊎ ((at.number / rest ≡ y / rest) × (at.number % rest < y % rest))
            → Earlier (wired n marks fuel at.part (at.number / rest)) (wired n marks fuel at.part (y / rest))
            ⊎ ((wired n marks fuel at.part (at.number / rest) ≡ wired n marks fuel at.part (y / rest))
            × Earlier (wired n marks fuel (g - at.part) (at.number % rest)) (wired n marks fuel (g - at.part) (y % rest)))
        go (inl first) = inl (below at.part _ _ (split_a_below n marks g at.part g< is.split) (omega (arith, sizes)) first to.left)
        go (inr (same, second)) =
            inr (
              ap (wired n marks fuel at.part) same,
              below (g - at.part) _ _ (split_b_below n marks g at.part g< is.split)
                  (omega (arith, sizes)) second to.right,
            )

    -- two numbers, wherever they fall
    any_split : InOrder fuel → (r s : ℕ) (at to : Numbered) → SplitAt n marks g r at → SplitAt n marks g s to → Onward at to
        → Earlier (parted fuel g at) (parted fuel g to)
    any_split below r s at to is is' (inl less) = inl (rw (left_group r at is, left_group s to is') less)
    any_split below r s at to is is' (inr (same, less)) =
        let again : ◌≡◌ {A = Numbered} (record { part = at.part; number = to.number }) to = λ i. record { part = same i; number = to.number } in
        subst (λ (u : Numbered). Earlier (parted fuel g at) (parted fuel g u)) again
        (same_split below r s at to.number is (subst (SplitAt n marks g s) (sym again) is') less)

  -- a later number has a later tree
  pub in_order : (fuel : ℕ) → InOrder fuel
  in_order zero g r s g< enough h k = absurd (omega (arith, size_pos n g g< (counted_some n marks g g< (omega arith))))
  in_order (suc fuel) g r s g< enough h k = elim (ℕ_discrete (size n g) 1) [
    | yes one ↦ absurd (omega (arith, count_single n marks g g< (counted_two n marks g g< (omega arith)) one))
    | no several ↦
        let counts = count_several n marks g g< (counted_two n marks g g< (omega arith)) several in
        rw (wired_several n marks fuel g r several, wired_several n marks fuel g s several)
        (any_split fuel g g< enough (in_order fuel) r s _ _ (number_split n marks g r g< several (omega arith)) (number_split n marks g s g< several k)
        (numbers_onward (split_counted n marks g) (splits_of n marks g) (splits_rise g) r s h (rw counts at k)))
  ]
