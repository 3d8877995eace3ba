-- Refusal 16, "no tree", and its place: "the group of fewest members, then lowest number, with mark 1".
-- Assumes nothing.
use Rattle.std.specs.Prelude.{◌<◌, ◌≤◌, ◌+◌, ◌^◌, ◌≡◌, ◌↔◌, ◌≢◌, ◌⊎◌, ◌&&◌}
use Rattle.laws.specs.Prelude.{ℕ, suc, zero, ◌∙◌, sym, ⊎_elim, inl, inr, true, Bool, and-eq-true_iff, List}
use Rattle.laws.specs.Prelude.{ℕ_discrete, arith, eqb, eq-eqb, eqb-true, pow-lt}
use Rattle.rules.specs.Groups.Groups.{part, size, multiplicity, whole_group}
use Rattle.rules.specs.Groups.Marks.{mark_in, marks_of, by_size, no_tree_place}
use Rattle.rules.specs.Lists.{range, those, concat_map, find}
use Rattle.trees.specs.Trees.Trees.{mix, Tells}
use Rattle.trees.specs.Groups.Members.{whole_below, size_le}
use Rattle.trees.specs.Groups.Levels.{part_below, part_whole, part_mix, mix_below}
use Rattle.trees.specs.Groups.Classes.{few_classes}
use Rattle.laws.specs.Lists.Finds.{First, missing, the_first, first_same, first_or, find_append, find_those, InRange, first_in_range}
use Rattle.trees.specs.Groups.MarkRule.{to_none, to_two, to_one, marked, way}

-- ---- the groups in the order of their sizes

module _ (n : ℕ) (t : ℕ → Bool) where
  -- fewer members, or equally many and no higher number
  abbrev Before : ℕ → ℕ → Type 0
  Before g h = (size n g < size n h) ⊎ ((size n g ≡ size n h) × (g ≤ h))

  abbrev of_size_of : ℕ → List ℕ
  of_size_of k = those (λ g. eqb (size n g) k) (range 0 (2 ^ n))

  -- a group of one size that passes, and one of several sizes
  abbrev Sized : ℕ → ℕ → Type 0
  Sized k g = (g < 2 ^ n) × (size n g ≡ k) × (t g ≡ true)

  abbrev SizedIn : ℕ → ℕ → ℕ → Type 0
  SizedIn from count g = (g < 2 ^ n) × (from ≤ size n g) × (size n g < from + count) × (t g ≡ true)

  sized_range : (k h : ℕ) → InRange (λ g. eqb (size n g) k && t g) 0 (2 ^ n) h ↔ Sized k h
  sized_range k h =
      let both = and-eq-true_iff (eqb (size n h) k) (t h) in (
        λ p. (omega arith, eqb-true _ _ (both.0 p.2).0, (both.0 p.2).1),
        λ p. (omega arith, omega arith, both.1 (eq-eqb _ _ p.1, p.2)),
      )

  -- the first of the groups of one size
  first_of_size : (k : ℕ) → First (Sized k) Before (find t (of_size_of k))
  first_of_size k =
      let lowest = first_in_range (λ g. eqb (size n g) k && t g) 0 (2 ^ n) in
      rw find_those (first_same lowest (sized_range k) (λ g h p q r. inr (p.1 ∙ sym q.1, r)))

  -- the sizes from `from` on are that one and those after it
  sizes_split : (from count h : ℕ) → (Sized from h ⊎ SizedIn (suc from) count h) ↔ SizedIn from (suc count) h
  sizes_split from count h =
      (⊎_elim (λ p. (p.0, omega arith, omega arith, p.2)) (λ p. (p.0, omega arith, omega arith, p.3)), go (ℕ_discrete (size n h) from))
    where
      go : Dec (size n h ≡ from) → SizedIn from (suc count) h → Sized from h ⊎ SizedIn (suc from) count h
      go (yes same) p = inl (p.0, same, p.3)
      go (no other) p = inr (p.0, omega arith, omega arith, p.3)

  -- the first of the groups of several sizes
  first_by_size : (from count : ℕ) → First (SizedIn from count) Before (find t (concat_map of_size_of (range from count)))
  unfolding concat_map range find
  first_by_size from zero = missing (λ h p. omega arith)
  first_by_size from (suc count) =
      let later = first_by_size (suc from) count in
      rw find_append (first_or (first_of_size from) later (sizes_split from count) (λ g h p q. inl (omega arith)))

-- ---- the place

module _ (m n : ℕ) (pos : 0 < m) (f : ℕ → ℕ) where
  -- for the whole group, a mix does not depend on the others
  whole_mix : (p y : ℕ) → mix m n (whole_group n) p y ≡ part m n (whole_group n) p
  whole_mix p y =
      let below = mix_below m n pos (whole_group n) p y (whole_below n) in
      sym (part_whole m n pos _ below) ∙ part_mix m n pos (whole_group n) p y (whole_below n)

  -- if every ink is below m, the whole group has at most m classes: the inks
  whole_few : ((p : ℕ) → p < m ^ n → f p < m) → multiplicity m n f (whole_group n) ≤ m
  whole_few inks =
      let ink : ℕ → ℕ = λ p. f (part m n (whole_group n) p) in
      let tells : Tells m n f (whole_group n) ink = λ p q e y. rw (whole_mix p y, whole_mix q y) e in
      few_classes m n pos f (whole_group n) (whole_below n) m ink (λ p. inks _ (part_below m n pos _ p)) tells

  -- if every ink is below m, the whole group's mark is 1 or 2
  pub whole_mark : 0 < n → ((p : ℕ) → p < m ^ n → f p < m) → marked m n pos f (whole_group n) ≢ 2 → marked m n pos f (whole_group n) ≡ 1
  unfolding whole_group
  whole_mark some inks not_two = elim (way m n pos f (whole_group n) (whole_below n)) [
    | to_none not_some e ↦ absurd (not_some (omega (arith, pow-lt {i = 0} some)) (whole_few inks))
    | to_two _ _ _ e ↦ absurd (not_two e)
    | to_one _ _ _ _ e ↦ e
  ]

  -- and then refusal 16 has a place: the group of mark 1 with fewest members, then of lowest number
  pub no_tree_place_lem : 0 < n → ((p : ℕ) → p < m ^ n → f p < m) → marked m n pos f (whole_group n) ≢ 2 →
      let g = no_tree_place n (marks_of m n f) in
      (g < 2 ^ n) × (marked m n pos f g ≡ 1)
      × ((h : ℕ) → h < 2 ^ n → marked m n pos f h ≡ 1 → (size n g < size n h) ⊎ ((size n g ≡ size n h) × (g ≤ h)))
  unfolding no_tree_place by_size
  no_tree_place_lem some inks not_two =
      let first = the_first (first_by_size n one_test 0 (n + 1)) (whole_group n) (sized _ (whole_below n) (whole_mark some inks not_two)) in
      (first.0.0, eqb-true _ _ first.0.3, λ h h< one. first.1 h (sized h h< one))
    where
      one_test : ℕ → Bool
      one_test g = eqb (mark_in (marks_of m n f) g) 1

      sized : (h : ℕ) → h < 2 ^ n → marked m n pos f h ≡ 1 → SizedIn n one_test 0 (n + 1) h
      sized h h< one = (h<, omega arith, omega (arith, size_le n h), eq-eqb _ _ one)
