-- A group whose parts all have mark 2 has (2k − 3)!! trees, where k is the number of its members: as many as k inputs have.
-- Assumes nothing.
use Rattle.std.specs.Prelude.{◌<◌, ◌≤◌, ◌+◌, ◌-◌, ◌^◌, ◌*◌, ◌≡◌, ◌≢◌, ◌&&◌, ◌∷◌, ◌++◌}
use Rattle.laws.specs.Prelude.{ℕ, suc, zero, ◌∙◌, sym, ap, refl, ap₂, true, false, Bool, cond, false≢true}
use Rattle.laws.specs.Prelude.{and-false, List, [], map, mul-zero, ℕ_discrete, dec_le, arith, eqb, get_or, eqb-true}
use Rattle.std.specs.Int.Bits.{and_self}
use Rattle.std.proofs.lemmas.Nat.{and_le_r}
use Rattle.rules.specs.Limits.{most_inputs}
use Rattle.rules.specs.Lists.{range, all, those, total}
use Rattle.rules.specs.Groups.Groups.{member, size}
use Rattle.rules.specs.Groups.Marks.{inside, mark_in, parts_at}
use Rattle.rules.specs.Nets.Wirings.{first_input}
use Rattle.rules.specs.Nets.SettledLaws.{MayBeA}
use Rattle.rules.specs.Nets.Family.{splits_of, split_count}
use Rattle.laws.specs.Lists.Tests.{all_mem}
use Rattle.laws.specs.Lists.Ranges.{range_suc, mem_range}
use Rattle.laws.specs.Lists.Totals.{total_parts, those_cons, those_append}
use Rattle.laws.specs.Lists.Sums.{sum_to, sum_same}
use Rattle.trees.specs.Groups.Members.{member_zero, inside_le, size_le, size_pos}
use Rattle.trees.specs.Trees.MarkTwo.{is_a, inside_trans, rest_inside}
use Rattle.trees.specs.Families.FamilyCounts.{group_trees, split_counted, count_single, count_several}
use Rattle.trees.specs.Families.FamilyBounds.{over_sets, in_first, over_firsts, trees_on, split_trees}
use Rattle.trees.specs.Families.Families.{split_sizes, split_a_below, split_b_below}
use Rattle.radix.specs.Members.{ones_size}
use Rattle.radix.specs.Parts.{PartOf, Next, inside_part, part_inside}

-- ---- sums

-- a sum over the numbers of a range that pass is a sum over all numbers below its end, where the others add 0
total_is_sum : (f : ℕ → ℕ) (test : ℕ → Bool) (k : ℕ)
    → cond (test 0) (f 0) 0 + total (map f (those test (range 1 k))) ≡ sum_to (λ a. cond (test a) (f a) 0) (suc k)
unfolding range those total sum_to
total_is_sum f test zero = omega arith
total_is_sum f test (suc k) =
    omega (arith, total_is_sum f test k, ap (λ (l : List ℕ). total (map f l)) parts ∙ total_parts f (those test (range 1 k)) (those test (suc k ∷ [])), last)
  where
    parts : those test (range 1 (suc k)) ≡ those test (range 1 k) ++ those test (suc k ∷ [])
    parts =
        let next : 1 + k ≡ suc k = omega arith in
        ap (those test) (range_suc 1 k) ∙ those_append test (range 1 k) ((1 + k) ∷ []) ∙ rw next

    last : total (map f (those test (suc k ∷ []))) ≡ cond (test (suc k)) (f (suc k)) 0
    last = rw (those_cons test (suc k) []) (go (test (suc k)))
      where
        go : (t : Bool) → total (map f (cond t (suc k ∷ []) [])) ≡ cond t (f (suc k)) 0
        go true = omega arith
        go false = refl

-- a longer sum is the same if the rest is 0
sum_end : (f : ℕ → ℕ) (j k : ℕ) → j ≤ k → ((i : ℕ) → j ≤ i → i < k → f i ≡ 0) → sum_to f j ≡ sum_to f k
unfolding sum_to
sum_end f j zero h none = let empty : j ≡ 0 = omega arith in rw empty
sum_end f j (suc k) h none = go (ℕ_discrete j (suc k)) (sum_end f j k)
  where
    go : Dec (j ≡ suc k) → (j ≤ k → ((i : ℕ) → j ≤ i → i < k → f i ≡ 0) → sum_to f j ≡ sum_to f k) → sum_to f j ≡ sum_to f k + f k
    go (yes e) below = rw e
    go (no other) below = omega (arith, below (omega arith) (λ i low high. none i low (omega arith)), none k (omega arith) (omega arith))

-- ---- the trees of k inputs, by splits

-- over all splits of k members, for k from 2 up to the limit
splits_are : all (λ k. eqb (over_sets (k - 1) (λ j. split_trees k (suc j))) (trees_on k)) (range 2 (most_inputs - 1)) ≡ true
unfolding all range over_sets split_trees trees_on
splits_are = refl

trees_by_splits : (k : ℕ) → 1 < k → k ≤ most_inputs → over_sets (k - 1) (λ j. split_trees k (suc j)) ≡ trees_on k
trees_by_splits k low high =
    eqb-true _ _
    (all_mem (λ k. eqb (over_sets (k - 1) (λ j. split_trees k (suc j))) (trees_on k)) (mem_range 2 (most_inputs - 1) k (omega arith) (omega arith)) splits_are)

-- ---- parts

-- a part of a part
part_part : (n a b g : ℕ) → a < 2 ^ n → inside n a b ≡ true → PartOf b g → PartOf a g
part_part n a b g a< in_b p =
    inside_part n a g a< (inside_trans n a b g in_b (part_inside n b g p))

-- every part of g that is not empty has mark 2
abbrev pub AllTwo : List ℕ → ℕ → Type 0
AllTwo marks g = (a : ℕ) → 0 < a → PartOf a g → mark_in marks a ≡ 2

-- the same holds for each part of g
pub part_two : (n : ℕ) (marks : List ℕ) (a g : ℕ) → a < 2 ^ n → PartOf a g → AllTwo marks g → AllTwo marks a
part_two n marks a g a< p twos b some q =
    twos b some (part_part n b a g (omega (arith, and_le_r b a, q)) (part_inside n b a q) p)

-- a group that holds an input is not empty
held_some : (i a : ℕ) → member i a ≡ true → 0 < a
held_some i zero held = absurd (false≢true (sym (member_zero i) ∙ held))
held_some i (suc a) held = omega arith

-- ---- the count

module _ (n : ℕ) (marks : List ℕ) where
  module _ (g : ℕ) (g< : g < 2 ^ n) (some : 0 < g) (twos : AllTwo marks g) where
    -- a part that holds the first-listed input may be A
    may : (a : ℕ) → a < g → inside n a g ≡ true → member (first_input n g) a ≡ true → MayBeA n marks g a
    may a less in_g held =
        let has : 0 < a = held_some (first_input n g) a held in
        let a< : a < 2 ^ n = omega arith in
        record {
          some = has;
          less = less;
          part = in_g;
          two = twos a has (inside_part n a g a< in_g);
          rest_two = twos (g - a) (omega arith) (inside_part n (g - a) g (omega arith) (rest_inside n a g a< g< in_g));
          holds_first = held;
        }

    module _ (parts : (a : ℕ) → MayBeA n marks g a → (group_trees n marks a ≡ trees_on (size n a))
        × (group_trees n marks (g - a) ≡ trees_on (size n (g - a)))) where
      abbrev h : ℕ → ℕ
      h = split_trees (size n g)

      -- what each number below g adds to the count depends only on its size
      split_is : (a : ℕ) → a < g → cond (is_a n marks g a) (split_counted n marks g a) 0 ≡ in_first n g h a
      unfolding parts_at split_count in_first split_trees
      split_is a less = go (inside n a g) refl (member (first_input n g) a) refl
        where
          go : (s : Bool) → inside n a g ≡ s → (t : Bool) → member (first_input n g) a ≡ t
              → cond (is_a n marks g a) (split_counted n marks g a) 0 ≡ in_first n g h a
          go s in_g false held = simp (held, and-false)
          go false in_g true held = rw in_g
          go true in_g true held =
              let split = may a less in_g held in
              let is = parts a split in
              let rest : size n (g - a) ≡ size n g - size n a = omega (arith, (split_sizes n marks g a g< split).0) in
              rw (in_g, held, split.two, split.rest_two) (ap₂ ◌*◌ is.0 (is.1 ∙ ap trees_on rest))

      -- and the other numbers add 0: g itself leaves no member
      past_none : (a : ℕ) → g ≤ a → a < 2 ^ n → in_first n g h a ≡ 0
      unfolding in_first split_trees trees_on
      past_none a past a< = go (inside n a g) refl (member (first_input n g) a)
        where
          go : (s : Bool) → inside n a g ≡ s → (t : Bool) → cond (s && t) (h (size n a)) 0 ≡ 0
          go false in_g t = refl
          go true in_g false = refl
          go true in_g true =
              let all : a ≡ g = omega (arith, inside_le n a g a< g< in_g) in
              let none : size n g - size n a ≡ 0 = rw all (omega arith) in
              rw none (mul-zero _)

      several_full : size n g ≢ 1 → size n g ≤ most_inputs → group_trees n marks g ≡ trees_on (size n g)
      unfolding splits_of
      several_full several small =
          let two : mark_in marks g ≡ 2 = twos g some (and_self g) in
          let end : suc (g - 1) ≡ g = omega arith in
          let none : cond (is_a n marks g 0) (split_counted n marks g 0) 0 ≡ 0 = rw (member_zero, and-false) in
          let summed : total (map (split_counted n marks g) (those (is_a n marks g) (range 1 (g - 1))))
          ≡ sum_to (λ a. cond (is_a n marks g a) (split_counted n marks g a) 0) (suc (g - 1)) =
          omega (arith, total_is_sum (split_counted n marks g) (is_a n marks g) (g - 1)) in
          count_several n marks g g< two several
          ∙ summed
          ∙ ap (sum_to (λ a. cond (is_a n marks g a) (split_counted n marks g a) 0)) end
          ∙ sum_same _ (in_first n g h) g split_is
          ∙ sum_end (in_first n g h) g (2 ^ n) (omega arith) past_none
          ∙ over_firsts n g h g< some
          ∙ trees_by_splits (size n g) (omega (arith, size_pos n g g< some)) small

  -- by the number of members
  full_below : (k g : ℕ) → g < 2 ^ n → 0 < g → size n g ≤ k → k ≤ most_inputs → AllTwo marks g → group_trees n marks g ≡ trees_on (size n g)
  full_below zero g g< some small k≤ twos = absurd (omega (arith, size_pos n g g< some))
  full_below (suc k) g g< some small k≤ twos = go (ℕ_discrete (size n g) 1) (full_below k)
    where
      go : Dec (size n g ≡ 1) → ((a : ℕ) → a < 2 ^ n → 0 < a → size n a ≤ k → k ≤ most_inputs → AllTwo marks a → group_trees n marks a ≡ trees_on (size n a))
          → group_trees n marks g ≡ trees_on (size n g)
      go (yes one) below = count_single n marks g g< (twos g some (and_self g)) one ∙ rw one (unfold trees_on in refl)
      go (no several) below =
          several_full g g< some twos (λ a split.
          let sizes = split_sizes n marks g a g< split in
          let a< = split_a_below n marks g a g< split in
          let b< = split_b_below n marks g a g< split in (
            below a a< split.some (omega (arith, sizes)) (omega arith) (part_two n marks a g a< (inside_part n a g a< split.part) twos),
            below (g - a) b< (omega (arith, split.less)) (omega (arith, sizes)) (omega arith)
                (part_two n marks (g - a) g b< (inside_part n (g - a) g b< (rest_inside n a g a< g< split.part)) twos),
          )) several (omega arith)

-- ---- for every number of inputs

-- The count of a full group, for every number of inputs that has the group.
pub full_count : (marks : List ℕ) (g : ℕ) → 0 < g → g < 2 ^ most_inputs → AllTwo marks g → (n : ℕ) → g < 2 ^ n → trees_on (size n g) ≡ group_trees n marks g
full_count marks g some small twos n g< =
    sym (full_below n marks most_inputs g g< some (omega (arith, ones_size n g g<, ones_size most_inputs g small, size_le most_inputs g)) (omega arith) twos)

-- in the order in which the code visits the parts

-- the parts of g up to `part` have mark 2
abbrev pub TwosTo : List ℕ → ℕ → ℕ → Type 0
TwosTo marks g part = (a : ℕ) → 0 < a → a ≤ part → PartOf a g → mark_in marks a ≡ 2

pub twos_none : (marks : List ℕ) (g : ℕ) → TwosTo marks g 0
twos_none marks g a some low p = absurd (omega arith)

pub twos_next : (marks : List ℕ) (g part next : ℕ) → Next g part next → mark_in marks next ≡ 2 → TwosTo marks g part → TwosTo marks g next
twos_next marks g part next after two twos a some low p = go (dec_le a part)
  where
    go : Dec (a ≤ part) → mark_in marks a ≡ 2
    go (yes passed) = twos a some passed p
    go (no later) = let last : a ≡ next = omega (arith, after.least a (omega arith) p) in rw last two

-- so the last of them is full
pub last_full : (marks : List ℕ) (g part : ℕ) → part < 2 ^ most_inputs → PartOf part g → TwosTo marks g part → AllTwo marks part
last_full marks g part small is_part twos a some p =
    let low : a ≤ part = omega (arith, and_le_r a part, p) in
    twos a some low (part_part most_inputs a part g (omega arith) (part_inside most_inputs a part p) is_part)

-- ---- the table of counts, by the number of members

pub table_entry : (l : List ℕ) → all (λ k. eqb (get_or l k 0) (trees_on k)) (range 0 (most_inputs + 1)) ≡ true → (k : ℕ) → k ≤ most_inputs → get_or l k 0 ≡ trees_on k
table_entry l right k small =
    eqb-true _ _ (all_mem (λ k. eqb (get_or l k 0) (trees_on k)) (mem_range 0 (most_inputs + 1) k (omega arith) (omega arith)) right)
