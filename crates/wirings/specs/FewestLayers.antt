-- The fewest layers of the groups of mark 2 as the code finds them. It tries only the parts that hold a group's first-listed input, because
-- exchanging a part and the rest gives the same layers. It reads only the groups of mark 2, because no other group is a part.
-- Assumes nothing.
use Rattle.std.specs.Prelude.{◌<◌, ◌≤◌, ◌+◌, ◌-◌, ◌^◌, ◌≡◌, ◌⊎◌, ◌&&◌, ◌∷◌, ◌++◌}
use Rattle.laws.specs.Prelude.{ℕ, suc, zero, ◌∙◌, sym, ap, refl, ⊎_elim, true, false, Bool, and-eq-true_iff, List}
use Rattle.laws.specs.Prelude.{[], map, Memᴰ, mem_not_nil, mem_of_map, mem_map, le_trans, le_of_eq, le_antisymm, dec_lt, ℕ_discrete}
use Rattle.laws.specs.Prelude.{arith, eqb, length, get_or, set, length-map, get_or-set_same, get_or-set_other, eq-eqb, ne_eqb}
use Rattle.std.specs.Int.Bits.{and_le_r}
use Rattle.rules.specs.Lists.{range, those}
use Rattle.rules.specs.Groups.Groups.{member}
use Rattle.rules.specs.Groups.Marks.{inside, mark_in, parts_at}
use Rattle.rules.specs.Nets.Wirings.{first_input}
use Rattle.rules.specs.Nets.Shallow.{least, split_layers, fewest_of, fewest_below, fewest_layers, shallow_split}
use Rattle.laws.specs.Lists.Ranges.{mem_range, range_mem}
use Rattle.laws.specs.Lists.FirstPlaces.{place_agree}
use Rattle.laws.specs.Lists.Finds.{those_mem}
use Rattle.laws.specs.Lists.Listed.{mem_those, those_pass, map_listed, those_listed}
use Rattle.laws.specs.Lists.Extremes.{least_bounds, least_listed}
use Rattle.trees.specs.Groups.Members.{first_member, size_le}
use Rattle.trees.specs.Groups.MarkRule.{parts_at_holds, parts_of, parts_found, parts_swap}
use Rattle.trees.specs.Trees.MarkTwo.{is_a, in_other_part, rest_inside, inside_trans}
use Rattle.trees.specs.Shallow.Shallow.{shallow_part}
use Rattle.trees.specs.Shallow.FewestLayers.{fewest, fewest_rule, fewest_small}
use Rattle.radix.specs.Parts.{PartOf, inside_part, part_inside}
use Rattle.marks.specs.FirstParts.{both_two}

-- ---- one group

module _ (n : ℕ) (marks layers : List ℕ) (g : ℕ) (g< : g < 2 ^ n) where
  -- the layers by a part
  abbrev by : ℕ → ℕ
  by a = split_layers layers g a

  -- a part that may be A has r layers
  pub record Attains (r : ℕ) : Type 0 where
    pub a : ℕ
    pub some : 0 < a
    pub less : a < g
    pub may : is_a n marks g a ≡ true
    pub layers_by_lem : by a ≡ r

  -- r is the least over the parts that hold the first-listed input, or 0 if there are none
  pub record LeastByFirst (r : ℕ) : Type 0 where
    pub bounds : (a : ℕ) → 0 < a → a < g → is_a n marks g a ≡ true → (0 < r) × (r ≤ by a)
    pub attained : (r ≡ 0) ⊎ Attains r

  -- the first parts of all the ways to split g
  abbrev parts : List ℕ
  parts = those (parts_at n marks g) (range 1 (g - 1))

  listed : (a : ℕ) → 0 < a → a < g → parts_at n marks g a ≡ true → Memᴰ a parts
  listed a some less h = mem_those (parts_at n marks g) a (range 1 (g - 1)) (mem_range 1 (g - 1) a some (omega arith)) h

  listed_is : (a : ℕ) → Memᴰ a parts → (0 < a) × (a < g) × (parts_at n marks g a ≡ true)
  listed_is a is =
      let between = range_mem 1 (g - 1) a (those_mem (parts_at n marks g) (range 1 (g - 1)) a is) in
      (between.0, omega arith, those_pass (parts_at n marks g) a (range 1 (g - 1)) is)

  -- the part or the rest of the group holds the first-listed input; the layers are the same
  first_side : (a : ℕ) → 0 < a → a < g → parts_at n marks g a ≡ true → Attains (by a)
  unfolding parts_of parts_swap split_layers
  first_side a some less h = go (member (first_input n g) a) refl (first_member n g g< (omega arith))
    where
      go : (b : Bool) → member (first_input n g) a ≡ b → (first_input n g < n) × (member (first_input n g) g ≡ true) → Attains (by a)
      go true holds first = record { a = a; some = some; less = less; may = rw (h, holds); layers_by_lem = refl }
      go false misses first =
          let two = parts_of n marks g a g< some less h in
          let other = parts_found n marks g g< (parts_swap n (mark_in marks) g two) in
          let holds = in_other_part (first_input n g) n (mark_in marks) g g< first.0 first.1 two misses in
          let back : g - (g - a) ≡ a = omega arith in
          record { a = g - a; some = omega arith; less = omega arith; may = rw (other, holds); layers_by_lem = rw back (omega arith) }

  pub least_by_first : (r : ℕ) → LeastByFirst r → r ≡ fewest_of n marks layers g
  unfolding fewest_of least
  least_by_first r is = go parts refl
    where
      -- no part that may be A has fewer
      bound : (a : ℕ) → 0 < a → a < g → is_a n marks g a ≡ true → least (map by parts) ≤ by a
      bound a some less h =
          least_bounds (by a) (map by parts) (mem_map by (listed a some less ((and-eq-true_iff (parts_at n marks g a) _).0 h).0))

      go : (xs : List ℕ) → parts ≡ xs → r ≡ least (map by parts)
      go [] e =
          ⊎_elim (λ none. none ∙ rw e)
          (λ (found : Attains r).
          absurd (mem_not_nil
          (rw e at (listed found.a found.some found.less ((and-eq-true_iff (parts_at n marks g found.a) _).0 found.may).0))))
          is.attained
      go (x ∷ xs) e =
          let best = mem_of_map by parts (least_listed (map by parts) (rw (e, length-map) (omega arith))) in
          let at = listed_is best.0 best.1 in
          let first = first_side best.0 at.0 at.1 at.2 in
          let low = is.bounds first.a first.some first.less first.may in
          ⊎_elim (λ none. absurd (omega arith))
          (λ (found : Attains r).
          le_antisymm (omega (arith, first.layers_by_lem, best.2)) (omega (arith, bound found.a found.some found.less found.may, found.layers_by_lem)))
          is.attained

-- the empty group has no parts
pub fewest_empty : (n : ℕ) (marks layers : List ℕ) → 0 ≡ fewest_of n marks layers 0
unfolding fewest_of least those range
fewest_empty n marks layers = refl

-- r is the lower of `least` and the layers by a, if a and the rest of g have mark 2; a least of 0 means none yet
pub record WiringFewer (marks layers : List ℕ) (g a least r : ℕ) : Type 0 where
  pub as_before : 0 < least → (0 < r) × (r ≤ least)
  pub by_part : both_two marks g a ≡ true → (0 < r) × (r ≤ split_layers layers g a)
  pub is : (r ≡ least) ⊎ ((both_two marks g a ≡ true) × (split_layers layers g a ≡ r))

-- the fewest layers of a group of mark 2, or 0 for any other group
unfoldable pub layers_of : ℕ → List ℕ → List ℕ → ℕ → ℕ
layers_of n marks layers g = elim (eqb (mark_in marks g) 2) [ true ↦ fewest_of n marks layers g | false ↦ 0 ]

module _ (n : ℕ) (marks layers : List ℕ) (g : ℕ) where
  pub layers_two : mark_in marks g ≡ 2 → fewest_of n marks layers g ≡ layers_of n marks layers g
  unfolding layers_of
  layers_two e = rw (eq-eqb (mark_in marks g) 2 e, layers_of)

  pub layers_other : (mark_in marks g ≡ 2 → ⊥) → 0 ≡ layers_of n marks layers g
  unfolding layers_of
  layers_other h = rw (ne_eqb (mark_in marks g) 2 h, layers_of)

  pub layers_empty : g ≡ 0 → 0 ≡ layers_of n marks layers g
  layers_empty e = go (ℕ_discrete (mark_in marks g) 2)
    where
      go : Dec (mark_in marks g ≡ 2) → 0 ≡ layers_of n marks layers g
      go (yes two) = fewest_empty n marks layers ∙ ap (fewest_of n marks layers) (sym e) ∙ layers_two two
      go (no other) = layers_other other

  -- at most what the rule gives
  pub layers_most : layers_of n marks layers g ≤ fewest_of n marks layers g
  layers_most = go (ℕ_discrete (mark_in marks g) 2)
    where
      go : Dec (mark_in marks g ≡ 2) → layers_of n marks layers g ≤ fewest_of n marks layers g
      go (yes two) = omega (arith, layers_two two)
      go (no other) = omega (arith, layers_other other)

-- ---- the groups inside some leaves

-- the entries of those below g that have mark 2 are their fewest layers
abbrev pub WiringKnown : ℕ → List ℕ → ℕ → ℕ → List ℕ → Type 0
WiringKnown n marks leaves g layers = (h : ℕ) → h < g → PartOf h leaves → mark_in marks h ≡ 2 → get_or layers h 0 ≡ fewest n marks h

-- the next of them after g, or past all
pub record PartAfter (leaves g next : ℕ) : Type 0 where
  pub above : g < next
  pub end : next ≤ leaves + 1
  pub part : next ≤ leaves → PartOf next leaves
  pub least : (u : ℕ) → g < u → PartOf u leaves → next ≤ u

-- a part before the next one, other than g, is below g
pub passed_part : {leaves g next h : ℕ} → (h ≡ g → ⊥) → PartAfter leaves g next → h < next → PartOf h leaves → h < g
passed_part {g = g} {h = h} other after h< part = go (dec_lt g h)
  where
    go : Dec (g < h) → h < g
    go (yes more) = absurd (omega (arith, after.least h more part))
    go (no less) = omega (arith, other)

-- both parts of a split are among them
pub parts_inside : (n : ℕ) (marks : List ℕ) (g a leaves : ℕ) → g < 2 ^ n → a < g → PartOf g leaves → parts_at n marks g a ≡ true
    → PartOf a leaves × PartOf (g - a) leaves
parts_inside n marks g a leaves g< less g_part h =
    let a_in = (parts_at_holds n marks g a h).0 in
    (within a (omega arith) a_in, within (g - a) (omega arith) (rest_inside n a g (omega arith) g< a_in))
  where
    within : (b : ℕ) → b < 2 ^ n → inside n b g ≡ true → PartOf b leaves
    within b b< b_in = inside_part n b leaves b< (inside_trans n b g leaves b_in (part_inside n g leaves g_part))

module _ (n : ℕ) (marks : List ℕ) where
  -- the rule reads only the entries of parts of mark 2
  rule_agree : (xs ys : List ℕ) (g leaves : ℕ) → g < 2 ^ n → PartOf g leaves
      → ((a : ℕ) → a < g → PartOf a leaves → mark_in marks a ≡ 2 → get_or xs a 0 ≡ get_or ys a 0) → fewest_of n marks xs g ≡ fewest_of n marks ys g
  unfolding fewest_of split_layers
  rule_agree xs ys g leaves g< g_part e =
      ap least (map_listed (split_layers xs g) (split_layers ys g) (those (parts_at n marks g) (range 1 (g - 1)))
      λ a is.
      let between = range_mem 1 (g - 1) a (those_mem (parts_at n marks g) (range 1 (g - 1)) a is) in
      let holds = those_pass (parts_at n marks g) a (range 1 (g - 1)) is in
      let twos = parts_at_holds n marks g a holds in
      let parts = parts_inside n marks g a leaves g< (omega arith) g_part holds in
      rw (e a (omega arith) parts.0 twos.1, e (g - a) (omega arith) parts.1 twos.2))

  module _ (leaves g : ℕ) (layers : List ℕ) (known : WiringKnown n marks leaves g layers) (g< : g < 2 ^ n) (g_part : PartOf g leaves) where
    -- so they give the next group's fewest layers, ..
    pub known_rule : fewest_of n marks layers g ≡ fewest n marks g
    known_rule = rule_agree layers (fewest_layers n marks) g leaves g< g_part known ∙ sym (fewest_rule n marks g g<)

    -- .. which are at most the number of inputs, ..
    pub known_small : layers_of n marks layers g ≤ n
    known_small = le_trans (layers_most n marks layers g) (le_trans (le_of_eq known_rule) (go (ℕ_discrete g 0)))
      where
        go : Dec (g ≡ 0) → fewest n marks g ≤ n
        go (yes none) = rw none (omega (arith, fewest_rule n marks 0 (omega arith), fewest_empty n marks (fewest_layers n marks)))
        go (no some) = omega (arith, fewest_small n marks g g< (omega arith), size_le n g)

    -- .. and are known once they are written at its number
    pub wiring_known_next : g < length layers → (r : ℕ) → r ≡ layers_of n marks layers g → (next : ℕ) → PartAfter leaves g next
        → WiringKnown n marks leaves next (set layers g r)
    wiring_known_next room r is next after h h< part two = go (ℕ_discrete h g)
      where
        go : Dec (h ≡ g) → get_or (set layers g r) h 0 ≡ fewest n marks h
        go (yes e) =
            ap (λ (k : ℕ). get_or (set layers g r) k 0) e
            ∙ get_or-set_same layers g r 0 room
            ∙ is
            ∙ sym (layers_two n marks layers g (ap (mark_in marks) (sym e) ∙ two))
            ∙ known_rule
            ∙ ap (fewest n marks) (sym e)
        go (no other) = get_or-set_other layers g h r 0 other ∙ known h (passed_part other after h< part) part two

-- ---- marks that agree on every group

module _ (n : ℕ) (xs ys : List ℕ) (same : (g : ℕ) → g < 2 ^ n → mark_in xs g ≡ mark_in ys g) where
  parts_agree : (g a : ℕ) → g < 2 ^ n → a < g → parts_at n xs g a ≡ parts_at n ys g a
  unfolding parts_at
  parts_agree g a g< less = rw (same a (omega arith), same (g - a) (omega arith))

  below_agree : (k : ℕ) → k ≤ 2 ^ n → fewest_below n xs k ≡ fewest_below n ys k
  unfolding fewest_below fewest_of
  below_agree zero h = refl
  below_agree (suc k) h =
      let before = below_agree k (omega arith) in
      let parts = those_listed (parts_at n xs k) (parts_at n ys k) (range 1 (k - 1))
      (λ a is. parts_agree k a (omega arith) (omega (arith, range_mem 1 (k - 1) a is))) in
      λ i. before i ++ (least (map (split_layers (before i) k) (parts i)) ∷ [])

  -- they have the same fewest layers, ..
  layers_agree : fewest_layers n xs ≡ fewest_layers n ys
  unfolding fewest_layers
  layers_agree = below_agree (2 ^ n) (omega arith)

  -- .. and the same A in every group of mark 2 inside the leaves
  pub shallow_agree : (layers : List ℕ) (leaves : ℕ) → WiringKnown n xs leaves (leaves + 1) layers → (g : ℕ) → g < 2 ^ n → PartOf g leaves → mark_in xs g ≡ 2
      → shallow_split n xs layers g ≡ shallow_part n ys g
  unfolding shallow_split split_layers
  shallow_agree layers leaves known g g< g_part two =
      ap (λ (k : ℕ). 1 + k) (place_agree _ _ 1 (g - 1) (λ a low high. go a (omega arith) (parts_at n xs g a) refl))
    where
      entry : (h : ℕ) → PartOf h leaves → mark_in xs h ≡ 2 → get_or layers h 0 ≡ get_or (fewest_layers n ys) h 0
      entry h part two_h = known h (omega (arith, part, and_le_r h leaves)) part two_h ∙ ap (λ (l : List ℕ). get_or l h 0) layers_agree

      go : (a : ℕ) → a < g → (b : Bool) → parts_at n xs g a ≡ b
          → (parts_at n xs g a && member (first_input n g) a && eqb (split_layers layers g a) (get_or layers g 0))
          ≡ (parts_at n ys g a && member (first_input n g) a && eqb (split_layers (fewest_layers n ys) g a) (get_or (fewest_layers n ys) g 0))
      go a less true e =
          let twos = parts_at_holds n xs g a e in
          let parts = parts_inside n xs g a leaves g< less g_part e in
          rw (parts_agree g a g< less, entry a parts.0 twos.1, entry (g - a) parts.1 twos.2, entry g g_part two)
      go a less false e = rw (← (parts_agree g a g< less), e)
