-- The leaves from the group of the idle inputs: the inputs that matter, and the first-listed others that bring the number up to two.
-- Assumes nothing.
use Rattle.std.specs.Prelude.{◌<◌, ◌≤◌, ◌+◌, ◌-◌, ◌^◌, ◌≡◌, ◌∷◌}
use Rattle.laws.specs.Prelude.{ℕ, ◌∙◌, sym, ap, refl, ap₂, true, false, Bool, not, List, map, append-nil, sub-zero}
use Rattle.laws.specs.Prelude.{dec_lt, arith, length, take, eq-eqb, ne_eqb}
use Rattle.rules.specs.Lists.{range, those, total}
use Rattle.rules.specs.Groups.Groups.{member, size, others}
use Rattle.rules.specs.Nets.Wirings.{first_input}
use Rattle.rules.specs.Nets.Leaves.{matters, mattering, leaf_inputs, leaves_of}
use Rattle.laws.specs.Lists.Ranges.{range_next, range_mem}
use Rattle.laws.specs.Lists.Listed.{those_listed}
use Rattle.laws.specs.Lists.Totals.{those_cons, total_parts}
use Rattle.trees.specs.Groups.GroupSum.{group_sum}
use Rattle.trees.specs.Groups.Members.{member_zero, member_single, member_others, others_below, size_zero, size_single, size_one, size_pos}
use Rattle.marks.specs.Marking.{IdleGroup}

-- some inputs as a group
abbrev group_with : List ℕ → ℕ
group_with inputs = total (map (λ i. 2 ^ i) inputs)

-- the inputs of a range that pass, from input i on

module _ (test : ℕ → Bool) (i n : ℕ) (h : i < n) where
  those_with : test i ≡ true → those test (range i (n - i)) ≡ i ∷ those test (range (i + 1) (n - (i + 1)))
  those_with e = rw (range_next i n h, those_cons test i (range (i + 1) (n - (i + 1))), e)

  those_without : test i ≡ false → those test (range i (n - i)) ≡ those test (range (i + 1) (n - (i + 1)))
  those_without e = rw (range_next i n h, those_cons test i (range (i + 1) (n - (i + 1))), e)

module _ (n idle m : ℕ) (f : ℕ → ℕ) (group : IdleGroup m n f idle) (used : ℕ) (is_used : used ≡ others n idle) where
  used< : used < 2 ^ n
  used< = omega (arith, is_used, others_below n idle)

  -- the members of the other group are the inputs that matter
  used_is : (i : ℕ) → i < n → member i used ≡ matters m n f i
  used_is i i< = ap (member i) is_used ∙ member_others i n idle i< group.below ∙ ap not (group.is i i<) ∙ not_not (matters m n f i)
    where
      not_not : (t : Bool) → not (not t) ≡ t
      not_not true = refl
      not_not false = refl

  used_all : those (λ i. member i used) (range 0 n) ≡ mattering m n f
  unfolding mattering
  used_all = those_listed _ _ (range 0 n) (λ i is. used_is i (omega (arith, range_mem 0 n i is)))

  used_sum : used ≡ group_with (mattering m n f)
  used_sum = sym (group_sum n used used<) ∙ ap group_with used_all

  used_count : size n used ≡ length (mattering m n f)
  unfolding size
  used_count = ap length used_all

  pub leaves_enough : 2 ≤ size n used → used ≡ leaves_of m n f
  unfolding leaves_of leaf_inputs
  leaves_enough enough =
      let none : 2 - length (mattering m n f) ≡ 0 = omega (arith, used_count) in
      rw none (used_sum ∙ ap group_with (sym (append-nil (mattering m n f))))

  -- ---- the others

  abbrev idle_from : ℕ → List ℕ
  idle_from i = those (λ j. not (matters m n f j)) (range i (n - i))

  leaves_joined : used + group_with (take (2 - size n used) (idle_from 0)) ≡ leaves_of m n f
  unfolding leaves_of leaf_inputs
  leaves_joined =
      rw total_parts
      (ap₂ ◌+◌ used_sum
      (ap₂ (λ (k l : ℕ). group_with (take (2 - k) (those (λ j. not (matters m n f j)) (range 0 l)))) used_count (sub-zero n)))

  with_others : (k : ℕ) (l : List ℕ) → size n used ≡ k → idle_from 0 ≡ l → used + group_with (take (2 - k) l) ≡ leaves_of m n f
  with_others k l e h = ap₂ (λ (j : ℕ) (xs : List ℕ). used + group_with (take (2 - j) xs)) (sym e) (sym h) ∙ leaves_joined

  tested : (i : ℕ) → i < n → (t : Bool) → member i used ≡ t → not (matters m n f i) ≡ not t
  tested i i< t e = ap not (sym (used_is i i<) ∙ e)

  module _ (several : 2 ≤ n) where
    zero< : 0 < n
    zero< = omega arith

    from_first : member 0 used ≡ false → idle_from 0 ≡ 0 ∷ idle_from 1
    from_first out = those_with _ 0 n zero< (tested 0 zero< false out)

    from_second : member 1 used ≡ false → idle_from 1 ≡ 1 ∷ idle_from 2
    from_second out = those_with _ 1 n several (tested 1 several false out)

    -- no input matters, or only the first-listed
    pub leaves_first : used ≤ 1 → 3 ≡ leaves_of m n f
    unfolding total
    leaves_first few = go (dec_lt 0 used)
      where
        go : Dec (0 < used) → 3 ≡ leaves_of m n f
        go (no none) =
            let e : used ≡ 0 = omega arith in
            let out : (i : ℕ) → member i used ≡ false = λ i. ap (member i) e ∙ member_zero i in
            omega (
              arith,
              e,
              with_others 0 (0 ∷ 1 ∷ idle_from 2) (ap (size n) e ∙ size_zero n) (from_first (out 0) ∙ ap (λ (l : List ℕ). 0 ∷ l) (from_second (out 1))),
            )
        go (yes some) =
            let e : used ≡ 2 ^ 0 = omega arith in
            let first : member 0 used ≡ true = ap (member 0) e ∙ member_single 0 0 ∙ eq-eqb 0 0 refl in
            let second : member 1 used ≡ false = ap (member 1) e ∙ member_single 1 0 ∙ ne_eqb 1 0 (λ h. omega arith) in
            omega (
              arith,
              e,
              with_others 1 (1 ∷ idle_from 2) (ap (size n) e ∙ size_single 0 n zero<)
                  (those_without _ 0 n zero< (tested 0 zero< true first) ∙ from_second second),
            )

    -- only another input
    pub leaves_other : 1 < used → size n used ≤ 1 → used + 1 ≡ leaves_of m n f
    unfolding total
    leaves_other more few =
        let one : size n used ≡ 1 = omega (arith, size_pos n used used< (omega arith)) in
        let alone = (size_one n used used< one).1 in
        let first : member 0 used ≡ false =
        ap (member 0) alone ∙ member_single 0 (first_input n used) ∙ ne_eqb 0 (first_input n used) (λ e. omega (arith, alone ∙ ap (λ (k : ℕ). 2 ^ k) (sym e))) in
        omega (arith, with_others 1 (0 ∷ idle_from 1) one (from_first first))
