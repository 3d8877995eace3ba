-- The computed list of counts: a group's count comes from its splits, and a split's from its two groups.
-- Assumes nothing.
use Rattle.std.specs.Prelude.{◌<◌, ◌≤◌, ◌+◌, ◌-◌, ◌^◌, ◌≡◌, ◌≢◌, ◌++◌}
use Rattle.laws.specs.Prelude.{ℕ, suc, zero, ◌∙◌, sym, ap, refl, true, false, Bool, and-eq-true_iff, List, [], map}
use Rattle.laws.specs.Prelude.{Memᴰ, add-one, ℕ_discrete, arith, eqb, length, length-append, get_or-append, get_or_at, ne_eqb, by_cases}
use Rattle.rules.specs.Groups.Groups.{member, size}
use Rattle.rules.specs.Groups.Marks.{mark_in, parts_at}
use Rattle.rules.specs.Lists.{range, those, total}
use Rattle.rules.specs.Nets.Family.{splits_of, count_in, split_count, count_of, counts_below, counts_of}
use Rattle.rules.specs.Nets.Wirings.{first_input}
use Rattle.rules.specs.Nets.SettledLaws.{MayBeA}
use Rattle.laws.specs.Lists.Ranges.{range_append, mem_range, range_mem}
use Rattle.laws.specs.Lists.Finds.{those_mem}
use Rattle.laws.specs.Lists.Totals.{total_parts, total_most, total_same, those_append}
use Rattle.laws.specs.Lists.Listed.{mem_those, those_pass}
use Rattle.trees.specs.Groups.Members.{size_zero}
use Rattle.trees.specs.Groups.MarkRule.{parts_at_holds}
use Rattle.trees.specs.Trees.MarkTwo.{is_a}

-- the rule's result, by its two tests, mark 2 and one member, and the sum over the splits
abbrev outcome : Bool → Bool → ℕ → ℕ
outcome true true sum = 1
outcome true false sum = sum
outcome false one sum = 0

module _ (n : ℕ) (marks : List ℕ) where
  -- ---- the splits of a group

  module _ (g a : ℕ) where
    -- a part that is listed may be A, ..
    pub split_is : Memᴰ a (splits_of n marks g) → MayBeA n marks g a
    unfolding splits_of
    split_is is =
        let between = range_mem 1 (g - 1) a (those_mem (is_a n marks g) (range 1 (g - 1)) a is) in
        let both = (and-eq-true_iff (parts_at n marks g a) (member (first_input n g) a)).0 (those_pass (is_a n marks g) a (range 1 (g - 1)) is) in
        let held = parts_at_holds n marks g a both.0 in
        record { some = omega arith; less = omega arith; part = held.0; two = held.1; rest_two = held.2; holds_first = both.1 }

    -- .. and each that may be A is listed
    pub is_split : MayBeA n marks g a → Memᴰ a (splits_of n marks g)
    unfolding splits_of parts_at
    is_split is =
        mem_those (is_a n marks g) a (range 1 (g - 1)) (mem_range 1 (g - 1) a (omega (arith, is.some)) (omega (arith, is.less)))
        (rw (is.part, is.two, is.rest_two, is.holds_first))

  -- ---- the list

  -- the sum over a group's splits
  abbrev over_splits : List ℕ → ℕ → ℕ
  over_splits counts g = total (map (split_count counts g) (splits_of n marks g))

  count_outcome : (counts : List ℕ) (g : ℕ) → count_of n marks counts g ≡ outcome (eqb (mark_in marks g) 2) (eqb (size n g) 1) (over_splits counts g)
  unfolding count_of
  count_outcome counts g = go (eqb (mark_in marks g) 2) (eqb (size n g) 1)
    where
      go : (b c : Bool) → elim b as (λ _. ℕ) [ true ↦ elim c [ true ↦ 1 | false ↦ over_splits counts g ] | false ↦ 0 ] ≡ outcome b c (over_splits counts g)
      go true true = refl
      go true false = refl
      go false c = refl

  -- the rule reads only the counts below the group
  count_agree : (xs ys : List ℕ) (g : ℕ) → ((a : ℕ) → a < g → count_in xs a ≡ count_in ys a) → count_of n marks xs g ≡ count_of n marks ys g
  unfolding split_count
  count_agree xs ys g e =
      rw (
        count_outcome xs g,
        count_outcome ys g,
        total_same (split_count xs g) (split_count ys g) (splits_of n marks g)
            (λ a is. let split = split_is g a is in rw (e a split.less, e (g - a) (omega (arith, split.some, split.less)))),
      )

  counts_below_length : (k : ℕ) → length (counts_below n marks k) ≡ k
  unfolding counts_below
  counts_below_length zero = refl
  counts_below_length (suc k) = rw (length-append, counts_below_length k, add-one)

  -- a count in the list follows the rule, given the counts below
  count_below : (k g : ℕ) → g < k → count_in (counts_below n marks k) g ≡ count_of n marks (counts_below n marks g) g
  unfolding counts_below
  count_below zero g h = absurd (omega arith)
  count_below (suc k) g h = by_cases (ℕ_discrete g k)
      (λ e. rw e (get_or_at (counts_below n marks k) _ [] 0 k (counts_below_length k)))
      (λ ne. get_or-append (counts_below n marks k) _ 0 g (rw (counts_below_length k) (omega arith)) ∙ count_below k g (omega arith))

  -- the count of a group
  abbrev pub group_trees : ℕ → ℕ
  group_trees g = count_in (counts_of n marks) g

  -- the count of a split
  abbrev pub split_counted : ℕ → ℕ → ℕ
  split_counted g a = split_count (counts_of n marks) g a

  pub counts_length : length (counts_of n marks) ≡ 2 ^ n
  unfolding counts_of
  counts_length = counts_below_length (2 ^ n)

  -- each count follows the rule, given all counts
  pub count_rule : (g : ℕ) → g < 2 ^ n → group_trees g ≡ count_of n marks (counts_of n marks) g
  unfolding counts_of
  count_rule g g< =
      count_below (2 ^ n) g g<
      ∙ count_agree (counts_below n marks g) (counts_below n marks (2 ^ n)) g (λ a h. count_below g a h ∙ sym (count_below (2 ^ n) a (omega arith)))

  -- ---- the rule

  module _ (g : ℕ) (g< : g < 2 ^ n) where
    -- 0 if the mark is not 2
    pub no_parts_count : mark_in marks g ≢ 2 → group_trees g ≡ 0
    no_parts_count other = count_rule g g< ∙ rw (count_outcome, ne_eqb (mark_in marks g) 2 other)

    -- 1 for a single input
    pub count_single : mark_in marks g ≡ 2 → size n g ≡ 1 → group_trees g ≡ 1
    count_single two one = count_rule g g< ∙ rw (count_outcome, two, one)

    -- otherwise the sum over its splits
    pub count_several : mark_in marks g ≡ 2 → size n g ≢ 1 → group_trees g ≡ total (map (split_counted g) (splits_of n marks g))
    count_several two several = count_rule g g< ∙ rw (count_outcome, two, ne_eqb (size n g) 1 several)

    -- a group that has a tree has mark 2, ..
    pub counted_two : 0 < group_trees g → mark_in marks g ≡ 2
    counted_two some =
        by_cases (ℕ_discrete (mark_in marks g) 2) (λ two. two) (λ other. absurd (omega (arith, no_parts_count other)))

  -- .. and is not empty
  pub counted_some : (g : ℕ) → g < 2 ^ n → 0 < group_trees g → 0 < g
  unfolding splits_of those range total
  counted_some zero g< some =
      absurd (omega (arith, count_several 0 g< (counted_two 0 g< some) (λ one. omega (arith, size_zero n))))
  counted_some (suc g) g< some = omega arith

  -- ---- each term is at most the count

  module _ (g : ℕ) (g< : g < 2 ^ n) (two : mark_in marks g ≡ 2) (several : size n g ≢ 1) where
    -- the count of each split
    pub split_most : (a : ℕ) → Memᴰ a (splits_of n marks g) → split_counted g a ≤ group_trees g
    split_most a is = rw (count_several g g< two several) (total_most (split_counted g) (splits_of n marks g) a is)

    -- and the sum over the parts below any number
    pub partial_most : (k : ℕ) → k ≤ g - 1 → total (map (split_counted g) (those (is_a n marks g) (range 1 k))) ≤ group_trees g
    unfolding splits_of
    partial_most k k≤ =
        let rest : k + (g - 1 - k) ≡ g - 1 = omega arith in
        let parts : those (is_a n marks g) (range 1 (g - 1)) ≡ those (is_a n marks g) (range 1 k) ++ those (is_a n marks g) (range (1 + k) (g - 1 - k)) =
        ap (λ (j : ℕ). those (is_a n marks g) (range 1 j)) (sym rest)
        ∙ ap (those (is_a n marks g)) (range_append 1 k (g - 1 - k)) ∙ those_append (is_a n marks g) (range 1 k) (range (1 + k) (g - 1 - k)) in
        rw (count_several g g< two several, parts, total_parts) (omega arith)
