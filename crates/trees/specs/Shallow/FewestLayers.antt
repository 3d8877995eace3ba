-- The computed list of fewest layers: a group that splits into two groups of mark 2 has one layer more than the deeper part of its shallowest
-- split; any other group has none. This holds for any marks.
-- Assumes nothing.
use Rattle.std.specs.Prelude.{◌<◌, ◌≤◌, ◌+◌, ◌-◌, ◌^◌, ◌≡◌, ◌⊎◌, ◌∷◌}
use Rattle.laws.specs.Prelude.{ℕ, suc, zero, max, ◌∙◌, sym, ap, refl, ⊎_elim, inl, inr, true, List, [], by_cases, map}
use Rattle.laws.specs.Prelude.{Memᴰ, mem_not_nil, mem_of_map, mem_map, add-one, ℕ_discrete, arith, length, get_or, length-append, get_or-append}
use Rattle.laws.specs.Prelude.{get_or_at, test_cases}
use Rattle.rules.specs.Groups.Groups.{member, size}
use Rattle.rules.specs.Groups.Marks.{mark_in, parts_at}
use Rattle.rules.specs.Lists.{range, those}
use Rattle.rules.specs.Nets.Wirings.{first_input}
use Rattle.rules.specs.Nets.Shallow.{least, split_layers, fewest_of, fewest_below, fewest_layers}
use Rattle.laws.specs.Lists.Ranges.{mem_range, range_mem}
use Rattle.laws.specs.Lists.Finds.{those_mem}
use Rattle.laws.specs.Lists.Listed.{mem_those, those_pass, map_listed}
use Rattle.laws.specs.Lists.Extremes.{least_bounds, least_listed}
use Rattle.trees.specs.Groups.Members.{first_member, size_join, size_pos}
use Rattle.trees.specs.Groups.MarkRule.{PartsIntoTwos, parts_of, parts_found, parts_swap}
use Rattle.trees.specs.Trees.MarkTwo.{in_other_part}

-- the sizes of the two parts add up to the group's
parts_sizes : (n : ℕ) (mark : ℕ → ℕ) (g : ℕ) → g < 2 ^ n → (parts : PartsIntoTwos n mark g)
    → (size n g ≡ size n parts.a + size n parts.b) × (0 < size n parts.a) × (0 < size n parts.b)
parts_sizes n mark g g< parts = (
  ap (size n) (sym parts.joined) ∙ size_join n parts.a parts.b (omega arith) (omega arith) parts.apart,
  size_pos n parts.a (omega arith) parts.some_a,
  size_pos n parts.b (omega arith) parts.some_b,
)

module _ (n : ℕ) (marks : List ℕ) where
  -- ---- the list

  -- the rule reads only the entries below the group
  fewest_agree : (xs ys : List ℕ) (g : ℕ) → ((a : ℕ) → a < g → get_or xs a 0 ≡ get_or ys a 0) → fewest_of n marks xs g ≡ fewest_of n marks ys g
  unfolding fewest_of split_layers
  fewest_agree xs ys g e =
      ap least (map_listed (split_layers xs g) (split_layers ys g) (those (parts_at n marks g) (range 1 (g - 1)))
      λ a is.
      let between = range_mem 1 (g - 1) a (those_mem (parts_at n marks g) (range 1 (g - 1)) a is) in
      rw (e a (omega arith), e (g - a) (omega arith)))

  below_length : (k : ℕ) → length (fewest_below n marks k) ≡ k
  unfolding fewest_below
  below_length zero = refl
  below_length (suc k) = rw (length-append, below_length k, add-one)

  -- an entry follows the rule, given the entries below
  entry_below : (k g : ℕ) → g < k → get_or (fewest_below n marks k) g 0 ≡ fewest_of n marks (fewest_below n marks g) g
  unfolding fewest_below
  entry_below zero g h = absurd (omega arith)
  entry_below (suc k) g h = by_cases (ℕ_discrete g k)
      (λ e. rw e (get_or_at (fewest_below n marks k) _ [] 0 k (below_length k)))
      (λ ne. get_or-append (fewest_below n marks k) _ 0 g (rw (below_length k) (omega arith)) ∙ entry_below k g (omega arith))

  -- the fewest layers of a group
  abbrev pub fewest : ℕ → ℕ
  fewest g = get_or (fewest_layers n marks) g 0

  -- each entry follows the rule, given all entries
  pub fewest_rule : (g : ℕ) → g < 2 ^ n → fewest g ≡ fewest_of n marks (fewest_layers n marks) g
  unfolding fewest_layers
  fewest_rule g g< =
      entry_below (2 ^ n) g g<
      ∙ fewest_agree _ _ g (λ a h. entry_below g a h ∙ sym (entry_below (2 ^ n) a (omega arith)))

  module _ (g : ℕ) (g< : g < 2 ^ n) where
    -- ---- no split is shallower

    -- the first parts of g's splits
    abbrev first_parts : List ℕ
    first_parts = those (parts_at n marks g) (range 1 (g - 1))

    abbrev layers_by : ℕ → ℕ
    layers_by = split_layers (fewest_layers n marks) g

    part_listed : (parts : PartsIntoTwos n (mark_in marks) g) → Memᴰ parts.a first_parts
    part_listed parts =
        mem_those (parts_at n marks g) parts.a (range 1 (g - 1)) (mem_range 1 (g - 1) parts.a (omega arith) (omega arith))
        (parts_found n marks g g< parts)

    pub fewest_least : (parts : PartsIntoTwos n (mark_in marks) g) → fewest g ≤ 1 + max (fewest parts.a) (fewest parts.b)
    unfolding fewest_of split_layers
    fewest_least parts =
        let rest : g - parts.a ≡ parts.b = omega arith in
        let bound : fewest_of n marks (fewest_layers n marks) g ≤ layers_by parts.a =
        least_bounds (layers_by parts.a) (map layers_by first_parts) (mem_map layers_by (part_listed parts)) in
        rw (fewest_rule g g<, ← rest) bound

    -- ---- some split is as shallow

    -- two parts that keep g shallowest; the first holds the first-listed input
    pub record Shallowest : Type 0 where
      pub parts : PartsIntoTwos n (mark_in marks) g
      pub holds_first : member (first_input n g) parts.a ≡ true
      pub attained : 1 + max (fewest parts.a) (fewest parts.b) ≡ fewest g

    -- one of two parts holds the first-listed input
    first_side : (parts : PartsIntoTwos n (mark_in marks) g) → 1 + max (fewest parts.a) (fewest parts.b) ≡ fewest g → Shallowest
    unfolding parts_swap
    first_side parts attained = test_cases (member (first_input n g) parts.a)
        (λ holds. record { parts = parts; holds_first = holds; attained = attained })
        (λ misses.
        record {
          parts = parts_swap n _ g parts;
          holds_first = in_other_part _ n _ g g< (first_member n g g< (omega arith)).0 (first_member n g g< (omega arith)).1 parts misses;
          attained = omega arith;
        })

    -- a group without a split has none, ..
    -- .. and for any other some split attains the least
    pub fewest_cases : ((PartsIntoTwos n (mark_in marks) g → ⊥) × (fewest g ≡ 0)) ⊎ Shallowest
    unfolding fewest_of split_layers least parts_of
    fewest_cases = go first_parts refl
      where
        listed : (a : ℕ) → Memᴰ a first_parts → layers_by a ≡ fewest g → Shallowest
        listed a is e =
            let between = range_mem 1 (g - 1) a (those_mem (parts_at n marks g) (range 1 (g - 1)) a is) in
            first_side (parts_of n marks g a g< (omega arith) (omega arith) (those_pass (parts_at n marks g) a (range 1 (g - 1)) is)) e

        go : (xs : List ℕ) → first_parts ≡ xs → ((PartsIntoTwos n (mark_in marks) g → ⊥) × (fewest g ≡ 0)) ⊎ Shallowest
        go [] e = inl (λ parts. mem_not_nil (rw e at (part_listed parts)), fewest_rule g g< ∙ rw e)
        go (x ∷ xs) e =
            let found = mem_of_map layers_by first_parts (least_listed (map layers_by first_parts) (rw e (omega arith))) in
            inr (listed found.0 found.1 (found.2 ∙ sym (fewest_rule g g<)))

    -- none for a single input, which has no split
    pub fewest_single : size n g ≡ 1 → fewest g ≡ 0
    fewest_single one = ⊎_elim (λ none. none.1) (λ best. omega (arith, parts_sizes n (mark_in marks) g g< best.parts)) fewest_cases

    -- for a group that splits: two parts attain the least
    pub fewest_attained : PartsIntoTwos n (mark_in marks) g → Shallowest
    fewest_attained parts = ⊎_elim (λ none. absurd (none.0 parts)) (λ best. best) fewest_cases

  -- fewer layers than members, ..
  small_below : (k g : ℕ) → g < k → g < 2 ^ n → 0 < g → fewest g < size n g
  small_below zero g h g< some = absurd (omega arith)
  small_below (suc k) g h g< some =
      ⊎_elim (λ none. omega (arith, none.1, size_pos n g g< some))
      (λ best.
      let parts = best.parts in
      let sizes = parts_sizes n (mark_in marks) g g< parts in
      let left = small_below k parts.a (omega arith) (omega arith) parts.some_a in
      let right = small_below k parts.b (omega arith) (omega arith) parts.some_b in
      omega (arith, best.attained))
      (fewest_cases g g<)

  -- .. in every non-empty group
  pub fewest_small : (g : ℕ) → g < 2 ^ n → 0 < g → fewest g < size n g
  fewest_small g g< some = small_below (suc g) g (omega arith) g< some
