-- Counts as the code computes and records them, for groups within the limits. They are the same for every number of inputs that has the group.
-- Assumes nothing.
use Rattle.std.specs.Prelude.{◌<◌, ◌≤◌, ◌+◌, ◌-◌, ◌^◌, ◌*◌, ◌≡◌, ◌≢◌, ◌⊎◌, ◌&&◌}
use Rattle.laws.specs.Prelude.{ℕ, ◌∙◌, refl, ap₂, ⊎_elim, inl, inr, true, false, Bool, and-eq-true_iff}
use Rattle.laws.specs.Prelude.{List, zero-mul, mul-zero, ℕ_discrete, arith, eqb, length, get_or, set, get_or-set_same, get_or-set_other, eqb-true, eqb-false}
use Rattle.rules.specs.Limits.{most_inputs}
use Rattle.rules.specs.Groups.Groups.{member, size}
use Rattle.rules.specs.Groups.Marks.{inside, mark_in}
use Rattle.rules.specs.Nets.Wirings.{first_input}
use Rattle.rules.specs.Nets.SettledLaws.{MayBeA}
use Rattle.rules.specs.Nets.Family.{split_count}
use Rattle.trees.specs.Groups.Members.{rest_apart, size_join, size_pos}
use Rattle.trees.specs.Families.FamilyCounts.{group_trees, split_counted, is_split, no_parts_count, split_most}
use Rattle.trees.proofs.Families.FamilyBounds.{group_trees_fit}
use Rattle.trees.specs.Families.Families.{split_sizes}
use Rattle.marks.specs.FirstParts.{both_two}

-- what is recorded

-- each entry is the group's count, or 0 if the count is not yet known
abbrev pub CountsKnown : List ℕ → List ℕ → Type 0
CountsKnown marks counts = (g : ℕ) → (get_or counts g 0 ≡ 0) ⊎ ((n : ℕ) → g < 2 ^ n → get_or counts g 0 ≡ group_trees n marks g)

-- one more count
pub one_kept : (marks counts : List ℕ) (g count : ℕ) → CountsKnown marks counts → g < length counts → ((n : ℕ) → g < 2 ^ n → count ≡ group_trees n marks g)
    → CountsKnown marks (set counts g count)
one_kept marks counts g count kept room is h = go (ℕ_discrete h g)
  where
    go : Dec (h ≡ g) → (get_or (set counts g count) h 0 ≡ 0) ⊎ ((n : ℕ) → h < 2 ^ n → get_or (set counts g count) h 0 ≡ group_trees n marks h)
    go (yes e) = inr (λ n h<. rw e (get_or-set_same counts g count 0 room ∙ is n (rw e at h<)))
    go (no other) = rw (get_or-set_other counts g h count 0 other) (kept h)

-- what the two counts require and return

-- group g is within the limits, and has its mark and its entry
pub record Countable (marks counts : List ℕ) (g : ℕ) : Type 0 where
  pub some : 0 < g
  pub below : g < 2 ^ most_inputs
  pub marked : g < length marks
  pub room : g < length counts
  pub kept : CountsKnown marks counts

-- g has mark 2, and a is a part that holds its first-listed input
pub record Splittable (marks counts : List ℕ) (g a : ℕ) : Type 0 where
  pub group : Countable marks counts g
  pub two : mark_in marks g ≡ 2
  pub some : 0 < a
  pub less : a < g
  pub holds : (n : ℕ) → g < 2 ^ n → (inside n a g ≡ true) × (member (first_input n g) a ≡ true)

-- both parts have members, and together as many as the group
pub splittable_sizes : (marks counts : List ℕ) (g a n : ℕ) → g < 2 ^ n → Splittable marks counts g a
    → (size n g ≡ size n a + size n (g - a)) × (0 < size n a) × (0 < size n (g - a))
splittable_sizes marks counts g a n g< is =
    let whole : a + (g - a) ≡ g = omega (arith, is.less) in
    let a< : a < 2 ^ n = omega (arith, is.less) in
    let b< : g - a < 2 ^ n = omega arith in (
      rw whole at (size_join n a (g - a) a< b< (rest_apart n a g a< g< (is.holds n g<).0)),
      size_pos n a a< is.some,
      size_pos n (g - a) b< (omega (arith, is.less)),
    )

-- r is the group's count, and the recorded counts are right
pub record CountKnown (marks : List ℕ) (g r : ℕ) (counts : List ℕ) : Type 0 where
  pub count : (n : ℕ) → g < 2 ^ n → r ≡ group_trees n marks g
  pub kept : CountsKnown marks counts

-- r is the split's count, and the recorded counts are right
pub record SplitKnown (marks : List ℕ) (g a r : ℕ) (counts : List ℕ) : Type 0 where
  pub count : (n : ℕ) → g < 2 ^ n → r ≡ split_counted n marks g a
  pub kept : CountsKnown marks counts

-- a smaller group, with the counts recorded by then
pub smaller : (marks counts later : List ℕ) (g a : ℕ) → Countable marks counts g → 0 < a → a < g → length later ≡ length counts → CountsKnown marks later
    → Countable marks later a
smaller marks counts later g a group some less same kept =
    record {
      some = some;
      below = omega (arith, group.below);
      marked = omega (arith, group.marked);
      room = omega (arith, group.room);
      kept = kept;
    }

-- the count of a split

module _ (n : ℕ) (marks : List ℕ) (g a : ℕ) (g< : g < 2 ^ n) (some : 0 < a) (less : a < g) where
  -- it is 0 if a part does not have mark 2
  pub split_none : both_two marks g a ≡ false → split_counted n marks g a ≡ 0
  unfolding split_count
  split_none = go (eqb (mark_in marks a) 2) refl
    where
      go : (b : Bool) → eqb (mark_in marks a) 2 ≡ b → (b && eqb (mark_in marks (g - a)) 2) ≡ false → group_trees n marks a * group_trees n marks (g - a) ≡ 0
      go true e other = rw (no_parts_count n marks (g - a) (omega arith) (eqb-false _ 2 other)) (mul-zero _)
      go false e other = rw (no_parts_count n marks a (omega arith) (eqb-false _ 2 e)) (zero-mul _)

  -- it is at most the group's count
  pub split_within : mark_in marks g ≡ 2 → inside n a g ≡ true → member (first_input n g) a ≡ true → split_counted n marks g a ≤ group_trees n marks g
  split_within two is_inside is_held_lem = go (both_two marks g a) refl
    where
      go : (b : Bool) → both_two marks g a ≡ b → split_counted n marks g a ≤ group_trees n marks g
      go false e = omega (arith, split_none e)
      go true e =
          let twos = (and-eq-true_iff (eqb (mark_in marks a) 2) _).0 e in
          let may : MayBeA n marks g a =
          record { some = some; less = less; part = is_inside; two = eqb-true _ 2 twos.0; rest_two = eqb-true _ 2 twos.1; holds_first = is_held_lem } in
          let sizes = split_sizes n marks g a g< may in
          split_most n marks g g< two (λ one. omega arith) a (is_split n marks g a may)

-- so its product and the group's sum fit in 64 bits
pub split_fits : (marks counts : List ℕ) (g a : ℕ) → Splittable marks counts g a → split_counted most_inputs marks g a < 2 ^ 64
split_fits marks counts g a split =
    let within = split_within most_inputs marks g a split.group.below split.some split.less split.two
    (split.holds most_inputs split.group.below).0 (split.holds most_inputs split.group.below).1 in
    omega (arith, group_trees_fit most_inputs marks (omega arith) g)

-- the product of the recorded counts of a split's two groups

module _ (marks counts : List ℕ) (g a : ℕ) (split : Splittable marks counts g a) where
  abbrev pub product : ℕ
  product = get_or counts a 0 * get_or counts (g - a) 0

  -- it is 0, or the split's count
  product_kept : (product ≡ 0) ⊎ ((n : ℕ) → g < 2 ^ n → product ≡ split_counted n marks g a)
  unfolding split_count
  product_kept = go (split.group.kept a) (split.group.kept (g - a))
    where
      go : (get_or counts a 0 ≡ 0) ⊎ ((n : ℕ) → a < 2 ^ n → get_or counts a 0 ≡ group_trees n marks a)
          → (get_or counts (g - a) 0 ≡ 0) ⊎ ((n : ℕ) → g - a < 2 ^ n → get_or counts (g - a) 0 ≡ group_trees n marks (g - a))
          → (product ≡ 0) ⊎ ((n : ℕ) → g < 2 ^ n → product ≡ split_counted n marks g a)
      go (inl none) right = inl (rw none (zero-mul _))
      go (inr left) (inl none) = inl (rw none (mul-zero _))
      go (inr left) (inr right) = inr (λ n g<. ap₂ ◌*◌ (left n (omega (arith, split.less))) (right n (omega arith)))

  pub product_fits : product < 2 ^ 64
  product_fits = ⊎_elim (λ none. omega (arith, none)) (λ is. omega (arith, is most_inputs split.group.below, split_fits marks counts g a split)) product_kept

  pub product_split : product ≢ 0 → (n : ℕ) → g < 2 ^ n → product ≡ split_counted n marks g a
  product_split some = ⊎_elim (λ none. absurd (some none)) (λ is. is) product_kept
