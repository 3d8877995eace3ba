-- A group has mark 2 exactly if it has a wiring all of whose gates' groups have at most m classes. Any choice of parts that both have
-- mark 2 gives such a wiring; document 01's choice of A is one.
-- Assumes nothing.
use Rattle.std.specs.Prelude.{◌<◌, ◌≤◌, ◌+◌, ◌-◌, ◌^◌, ◌≡◌, ◌≢◌, ◌⊎◌, ◌&&◌}
use Rattle.laws.specs.Prelude.{ℕ, suc, zero, ◌∙◌, sym, ap, refl, ⊎_elim, true, false, Bool, and-eq-true_iff}
use Rattle.laws.specs.Prelude.{List, arith, eqb, eqb-true, eqb-false}
use Rattle.rules.specs.Groups.Groups.{member, size}
use Rattle.rules.specs.Groups.Marks.{inside, mark_in, parts_at, marks_of}
use Rattle.rules.specs.Lists.{range, any}
use Rattle.rules.specs.Nets.Settled.{split_of, settled_wiring}
use Rattle.rules.specs.Nets.Trees.{EachOnce}
use Rattle.rules.specs.Nets.Wirings.{Wiring, input, gate, group_of, first_input, wiring_by}
use Rattle.laws.specs.Lists.Tests.{mem_any}
use Rattle.laws.specs.Lists.Ranges.{mem_range}
use Rattle.laws.specs.Lists.FirstPlaces.{first_passes}
use Rattle.trees.specs.Trees.Trees.{WiringOf, EachGate}
use Rattle.trees.specs.Groups.Classes.{Few}
use Rattle.trees.specs.Trees.Wirings.{group_below}
use Rattle.trees.specs.Groups.Members.{member_join, member_rest, inside_member, member_inside, first_member, size_zero, size_single, size_one}
use Rattle.trees.specs.Groups.Members.{size_join, size_pos, size_le, rest_apart}
use Rattle.trees.specs.Groups.MarkRule.{PartsIntoTwos, parts_at_holds, parts_found, parts_swap, to_none, to_two, to_one, marked, way, three_way}

-- the test for document 01's A: a part of mark 2 that holds the first-listed input, with a rest of mark 2
abbrev pub is_a : ℕ → List ℕ → ℕ → ℕ → Bool
is_a n marks g a = parts_at n marks g a && member (first_input n g) a

-- of two parts with mark 2, the one that holds the first-listed input passes
part-is-A : (n : ℕ) (marks : List ℕ) (g : ℕ) → g < 2 ^ n → (parts : PartsIntoTwos n (mark_in marks) g)
    → member (first_input n g) parts.a ≡ true → any (is_a n marks g) (range 1 (g - 1)) ≡ true
part-is-A n marks g g< parts holds =
    mem_any (is_a n marks g) (mem_range 1 (g - 1) parts.a (omega arith) (omega arith)) (rw (parts_found n marks g g< parts, holds))

-- what the first of two parts does not hold, the second does
pub in_other_part : (i n : ℕ) (mark : ℕ → ℕ) (g : ℕ) → g < 2 ^ n → i < n → member i g ≡ true → (parts : PartsIntoTwos n mark g)
    → member i parts.a ≡ false → member i parts.b ≡ true
in_other_part i n mark g g< i< is parts misses =
    let either = member_join i n parts.a parts.b (omega arith) (omega arith) parts.apart i< in
    rw misses at (sym either ∙ ap (member i) parts.joined ∙ is)

-- one of the two passes
pub some-A : (n : ℕ) (marks : List ℕ) (g : ℕ) → g < 2 ^ n → (parts : PartsIntoTwos n (mark_in marks) g)
    → any (is_a n marks g) (range 1 (g - 1)) ≡ true
unfolding parts_swap
some-A n marks g g< parts = go (member (first_input n g) parts.a) refl (first_member n g g< (omega arith))
  where
    go : (b : Bool) → member (first_input n g) parts.a ≡ b → (first_input n g < n) × (member (first_input n g) g ≡ true)
        → any (is_a n marks g) (range 1 (g - 1)) ≡ true
    go true holds first = part-is-A n marks g g< parts holds
    go false misses first =
        part-is-A n marks g g< (parts_swap n _ g parts) (in_other_part _ n _ g g< first.0 first.1 parts misses)

-- ---- a choice of parts

-- a is a part of g, and it and the rest have mark 2
pub record Split (n : ℕ) (mark : ℕ → ℕ) (g a : ℕ) : Type 0 where
  pub part : inside n a g ≡ true
  pub some : 0 < a
  pub less : a < g
  pub two_a : mark a ≡ 2
  pub two_b : mark (g - a) ≡ 2

-- `split` parts every group of mark 2 with several members, inside the group `leaves`, into two of mark 2
abbrev pub Splits : ℕ → (ℕ → ℕ) → ℕ → (ℕ → ℕ) → Type 0
Splits n mark leaves split = (g : ℕ) → g < 2 ^ n → inside n g leaves ≡ true → mark g ≡ 2 → size n g ≢ 1 → Split n mark g (split g)

-- a part of a part is a part, and so is the rest of a part
pub inside_trans : (n a g h : ℕ) → inside n a g ≡ true → inside n g h ≡ true → inside n a h ≡ true
inside_trans n a g h a_in g_in = member_inside n a h (λ i i< is. inside_member i n g h g_in i< (inside_member i n a g a_in i< is))

pub rest_inside : (n a g : ℕ) → a < 2 ^ n → g < 2 ^ n → inside n a g ≡ true → inside n (g - a) g ≡ true
rest_inside n a g a< g< a_in =
    member_inside n (g - a) g (λ i i< is. ((and-eq-true_iff _ _).0 (sym (member_rest i n a g a< g< a_in i<) ∙ is)).0)

module _ (n : ℕ) (mark : ℕ → ℕ) (leaves : ℕ) (split : ℕ → ℕ) (splits : Splits n mark leaves split) where
  -- a group of mark 2 has a member: the empty one cannot be split
  pub two_some : (g : ℕ) → g < 2 ^ n → inside n g leaves ≡ true → mark g ≡ 2 → 0 < g
  two_some zero g< g_in two = absurd (omega (arith, (splits 0 g< g_in two (λ one. omega (arith, size_zero n))).less))
  two_some (suc g) g< g_in two = omega arith

  -- a group of mark 2 with several members, and its two parts
  module _ (g : ℕ) (g< : g < 2 ^ n) (g_in : inside n g leaves ≡ true) (two : mark g ≡ 2) (several : size n g ≢ 1) where
    abbrev pub part_a : ℕ
    part_a = split g

    pub parted : Split n mark g part_a
    parted = splits g g< g_in two several

    pub a_below : part_a < 2 ^ n
    a_below = omega (arith, parted.less)

    pub b_below : g - part_a < 2 ^ n
    b_below = omega arith

    pub a_inside : inside n part_a leaves ≡ true
    a_inside = inside_trans n part_a g leaves parted.part g_in

    pub b_inside : inside n (g - part_a) leaves ≡ true
    b_inside = inside_trans n (g - part_a) g leaves (rest_inside n part_a g a_below g< parted.part) g_in

    -- they have fewer members
    pub parted_sizes : (size n g ≡ size n part_a + size n (g - part_a)) × (0 < size n part_a) × (0 < size n (g - part_a))
    parted_sizes =
        let whole : part_a + (g - part_a) ≡ g = omega (arith, parted.less) in (
          rw whole at (size_join n part_a (g - part_a) a_below b_below (rest_apart n part_a g a_below g< parted.part)),
          size_pos n part_a a_below parted.some,
          size_pos n (g - part_a) b_below (omega (arith, parted.less)),
        )

  -- ---- the wiring by a choice of parts

  -- a wiring of g with mark 2 at each gate's group
  abbrev MarkedWiring : ℕ → Wiring → Type 0
  MarkedWiring g w = WiringOf n g w × EachGate (λ h. mark h ≡ 2) w

  -- the wirings of a part and of its rest give one of the group
  join_wirings : (g a : ℕ) (left right : Wiring) → g < 2 ^ n → mark g ≡ 2 → inside n a g ≡ true → a < g
      → MarkedWiring a left → MarkedWiring (g - a) right → MarkedWiring g (gate left right)
  unfolding group_of
  join_wirings g a left right g< two part less l r =
      let apart = rest_apart n a g (omega arith) g< part in
      let joined : group_of left + group_of right ≡ g = omega arith in
      (((rw (l.0.1, r.0.1) apart, l.0.0, r.0.0), joined), (rw joined two, l.1, r.1))

  -- a group of one member is wired by name
  single_wiring : (g : ℕ) → g < 2 ^ n → size n g ≡ 1 → MarkedWiring g (input (first_input n g))
  unfolding group_of
  single_wiring g g< one =
      let is = size_one n g g< one in
      ((is.0, sym is.1), tt)

  -- the wiring by the choice is a wiring of the group, with mark 2 at each gate's group
  pub wiring_of_lem : (fuel g : ℕ) → g < 2 ^ n → inside n g leaves ≡ true → size n g ≤ fuel → mark g ≡ 2
      → WiringOf n g (wiring_by n split fuel g) × EachGate (λ h. mark h ≡ 2) (wiring_by n split fuel g)
  unfolding wiring_by
  wiring_of_lem zero g g< g_in enough two = absurd (omega (arith, size_pos n g g< (two_some g g< g_in two)))
  wiring_of_lem (suc fuel) g g< g_in enough two = go _ (eqb (size n g) 1) refl λ several.
      let smaller = parted_sizes g g< g_in two several in
      let half = parted g g< g_in two several in
      let left = wiring_of_lem fuel _ (a_below g g< g_in two several) (a_inside g g< g_in two several) (omega arith) half.two_a in
      let right = wiring_of_lem fuel _ (b_below g g< g_in two several) (b_inside g g< g_in two several) (omega arith) half.two_b in
      join_wirings g _ _ _ g< two half.part half.less left right
    where
      go : (w : Wiring) (b : Bool) → eqb (size n g) 1 ≡ b → (size n g ≢ 1 → MarkedWiring g w)
          → MarkedWiring g (elim b as (λ _. Wiring) [ true ↦ input (first_input n g) | false ↦ w ])
      go w true one rest = single_wiring g g< (eqb-true _ _ one)
      go w false several rest = rest (eqb-false _ _ several)

-- a property of each gate's group implies what follows from it
pub each_gate : {P Q : ℕ → Type 0} (n : ℕ) (w : Wiring) → ((g : ℕ) → g < 2 ^ n → P g → Q g) → EachOnce n w → EachGate P w → EachGate Q w
each_gate n (input i) map once each = tt
each_gate n (gate a b) map once each =
    (map _ (group_below n (gate a b) once) each.0, each_gate n a map once.1 each.1, each_gate n b map once.2 each.2)

-- ---- mark 2

module _ (m n : ℕ) (pos : 0 < m) (f : ℕ → ℕ) where
  -- what mark 2 means for a group
  pub record Two (g : ℕ) : Type 0 where
    pub some : 0 < g
    pub few : Few m n f g
    pub why : (size n g ≡ 1) ⊎ PartsIntoTwos n (marked m n pos f) g

  pub two_says : (g : ℕ) → g < 2 ^ n → marked m n pos f g ≡ 2 → Two g
  two_says g g< two = elim (way m n pos f g g<) [
    | to_none _ e ↦ absurd (omega arith)
    | to_two some few why e ↦ record { some = some; few = few; why = why }
    | to_one _ _ _ _ e ↦ absurd (omega arith)
  ]

  -- a gate that joins two wirings of mark 2 splits its group into twos
  unfoldable pub gate_twos : (a b : Wiring) → EachOnce n (gate a b) → marked m n pos f (group_of a) ≡ 2 → marked m n pos f (group_of b) ≡ 2
      → PartsIntoTwos n (marked m n pos f) (group_of a + group_of b)
  gate_twos a b once two_a two_b = record {
    a = group_of a;
    b = group_of b;
    joined = refl;
    apart = once.0;
    some_a = (two_says _ (group_below n a once.1) two_a).some;
    some_b = (two_says _ (group_below n b once.2) two_b).some;
    two_a = two_a;
    two_b = two_b;
  }

  -- a wiring with few classes at each gate gives mark 2
  pub wiring_mark : (w : Wiring) → EachOnce n w → EachGate (Few m n f) w → marked m n pos f (group_of w) ≡ 2
  unfolding group_of
  wiring_mark (input i) once few = (three_way m n pos f _ (group_below n (input i) once)).single (size_single i n once)
  wiring_mark (gate a b) once few =
      (three_way m n pos f _ (group_below n (gate a b) once)).parted few.0
      (gate_twos a b once (wiring_mark a once.1 few.1) (wiring_mark b once.2 few.2))

  -- mark 2 with several members: document 01's A, and the rest
  pub split_two : (g : ℕ) → g < 2 ^ n → marked m n pos f g ≡ 2 → size n g ≢ 1 → Split n (marked m n pos f) g (split_of n (marks_of m n f) g)
  unfolding split_of
  split_two g g< two several =
      let parts = ⊎_elim (λ one. absurd (several one)) (λ parts. parts) (two_says g g< two).why in
      let found = first_passes _ 1 (g - 1) (some-A n (marks_of m n f) g g< parts) in
      let held = parts_at_holds n (marks_of m n f) g _ ((and-eq-true_iff _ _).0 found.1).0 in
      record { part = held.0; some = omega arith; less = omega arith; two_a = held.1; two_b = held.2 }

  -- so document 01's choice is one
  pub settled_splits : (leaves : ℕ) → Splits n (marked m n pos f) leaves (split_of n (marks_of m n f))
  settled_splits leaves g g< g_in two several = split_two g g< two several

  -- and the settled wiring of a group of mark 2 is a wiring of it with few classes at each gate
  pub settled_wiring_of : (leaves : ℕ) → leaves < 2 ^ n → marked m n pos f leaves ≡ 2
      → WiringOf n leaves (settled_wiring n (marks_of m n f) leaves) × EachGate (Few m n f) (settled_wiring n (marks_of m n f) leaves)
  unfolding settled_wiring
  settled_wiring_of leaves leaves< two =
      let w = wiring_of_lem n (marked m n pos f) leaves (split_of n (marks_of m n f)) (settled_splits leaves) n leaves leaves<
      (member_inside n leaves leaves (λ i i< is. is)) (size_le n leaves) two in
      (w.0, each_gate n (settled_wiring n (marks_of m n f) leaves) (λ g g< two_g. (two_says g g< two_g).few) w.0.0 w.1)
