-- The theorems of Families/Families that rest on a definition which a must-fail edit changes: they stand here, so that the edit leaves specs/ readable.
-- Assumes nothing.
use Rattle.std.specs.Prelude.{◌<◌, ◌≤◌, ◌+◌, ◌-◌, ◌^◌, ◌*◌, ◌%◌, ◌/◌, ◌≡◌, ◌≢◌}
use Rattle.laws.specs.Prelude.{ℕ, suc, zero, ◌∙◌, sym, ap, ap₂, List}
use Rattle.laws.specs.Prelude.{div-add-mod', ℕ_discrete, arith, digits_lt, digits_mod, digits_div}
use Rattle.rules.specs.Groups.Groups.{size}
use Rattle.rules.specs.Groups.Marks.{mark_in}
use Rattle.rules.specs.Nets.Family.{splits_of, split_count, Numbered, numbered_at}
use Rattle.rules.specs.Nets.Trees.{EachOnce}
use Rattle.rules.specs.Nets.Wirings.{Wiring, input, gate, group_of, first_input}
use Rattle.rules.specs.Nets.SettledLaws.{MayBeA}
use Rattle.laws.specs.Lists.Totals.{before, before_below, numbered_before}
use Rattle.trees.specs.Groups.Members.{size_single, size_one, size_pos, rest_apart}
use Rattle.trees.specs.Filling.Carried.{first_single}
use Rattle.trees.specs.Trees.Wirings.{group_below, group_some}
use Rattle.trees.specs.Families.NormalWirings.{Normal, left_inside}
use Rattle.trees.specs.Families.FamilyCounts.{is_split, group_trees, split_counted, count_single, count_several, counted_two, counted_some}
use Rattle.trees.specs.Families.Families.{AllTwos, HasNumber, InFamily, number_of, number_split, own_two, split_a_below, split_b_below, split_sizes, wired, wired_several, wired_single}

module _ (n : ℕ) (marks : List ℕ) where
  -- ---- the wiring of a number, by its last gate

  -- the wiring, if the split and the number in it are known
  abbrev wired_at : ℕ → ℕ → Numbered → Wiring
  wired_at fuel g at =
      gate (wired n marks fuel at.part (at.number / group_trees n marks (g - at.part))) (wired n marks fuel (g - at.part) (at.number % group_trees n marks (g - at.part)))

  -- ---- a split

  module _ (g a : ℕ) (g< : g < 2 ^ n) (split : MayBeA n marks g a) where
    -- a wiring of each part, joined
    join_family : mark_in marks g ≡ 2 → (l r : Wiring) → InFamily n marks a l → InFamily n marks (g - a) r → InFamily n marks g (gate l r)
    unfolding group_of
    join_family two l r of_a of_b_lem =
        let left = of_a.of.1 in
        let right = of_b_lem.of.1 in
        let whole : group_of l + group_of r ≡ g = omega (arith, split.less) in
        record {
          of = ((rw (left, right) (rest_apart n a g (split_a_below n marks g a g< split) g< split.part), of_a.of.0, of_b_lem.of.0), whole);
          twos = (rw whole two, of_a.twos, of_b_lem.twos);
          norm = (rw (whole, left) split.holds_first, of_a.norm, of_b_lem.norm);
        }

    join_number : (l r : Wiring) → group_of l ≡ a → group_of r ≡ g - a
        → number_of n marks (gate l r) ≡ before (split_counted n marks g) (splits_of n marks g) a + (number_of n marks l * group_trees n marks (g - a) + number_of n marks r)
    unfolding number_of
    join_number l r left right =
        let whole : a + (g - a) ≡ g = omega (arith, split.less) in
        rw (left, right, whole)

  -- ---- from a number to a wiring

  -- a single input
  single_numbered : (g r : ℕ) → g < 2 ^ n → size n g ≡ 1 → r < group_trees n marks g → HasNumber n marks g r (input (first_input n g))
  unfolding number_of group_of
  single_numbered g r g< one h =
      let two = counted_two n marks g g< (omega arith) in
      let is = size_one n g g< one in
      record {
        family = record { of = (is.0, sym is.1); twos = rw (← is.1) two; norm = tt };
        number = omega (arith, count_single n marks g g< two one);
      }

  -- Each number below the count gives a wiring that counts, and is that wiring's number.
  pub wiring_numbered_lem : (fuel g r : ℕ) → g < 2 ^ n → size n g ≤ fuel → r < group_trees n marks g → HasNumber n marks g r (wired n marks fuel g r)
  wiring_numbered_lem zero g r g< enough h = absurd (omega (arith, size_pos n g g< (counted_some n marks g g< (omega arith))))
  wiring_numbered_lem (suc fuel) g r g< enough h = elim (ℕ_discrete (size n g) 1) [
    | yes one ↦ rw (wired_single n marks (suc fuel) g r one) (single_numbered g r g< one h)
    | no several ↦
        let two = counted_two n marks g g< (omega arith) in
        let placed = number_split n marks g r g< several h in
        let at : Numbered = numbered_at (split_counted n marks g) (splits_of n marks g) r in
        let a : ℕ = at.part in
        let split = placed.split in
        let sizes = split_sizes n marks g a g< split in
        let left = wiring_numbered_lem fuel a (at.number / group_trees n marks (g - a)) (split_a_below n marks g a g< split) (omega arith) placed.left in
        let right = wiring_numbered_lem fuel (g - a) (at.number % group_trees n marks (g - a)) (split_b_below n marks g a g< split) (omega arith) placed.right in
        rw (wired_several n marks fuel g r several) (record {
          family = join_family g a g< split two _ _ left.family right.family;
          number =
              join_number g a g< split _ _ left.family.of.1 right.family.of.1
              ∙ rw (left.number, right.number, div-add-mod') placed.again;
        })
  ]

  -- ---- from a wiring to its number

  -- a gate's left side is one of its group's splits
  gate_split : (a b : Wiring) → EachOnce n (gate a b) → AllTwos n marks (gate a b) → Normal n (gate a b) → MayBeA n marks (group_of (gate a b)) (group_of a)
  unfolding group_of
  gate_split a b once twos norm =
      let rest : group_of a + group_of b - group_of a ≡ group_of b = omega arith in
      record {
        some = group_some a;
        less = omega (arith, group_some b);
        part = left_inside n a b once;
        two = own_two n marks a twos.1;
        rest_two = rw rest (own_two n marks b twos.2);
        holds_first = norm.0;
      }

  -- a gate whose two sides count
  module _ (a b : Wiring) (once : EachOnce n (gate a b)) (twos : AllTwos n marks (gate a b)) (norm : Normal n (gate a b))
      (a_small : number_of n marks a < group_trees n marks (group_of a)) (b_small : number_of n marks b < group_trees n marks (group_of b)) where
    abbrev own : ℕ
    own = group_of a + group_of b

    abbrev own< : own < 2 ^ n
    own< = unfold group_of in group_below n (gate a b) once

    abbrev split : MayBeA n marks own (group_of a)
    split = unfold group_of in gate_split a b once twos norm

    rest : own - group_of a ≡ group_of b
    rest = omega arith

    -- its number in the split
    abbrev number : ℕ
    number = number_of n marks a * group_trees n marks (group_of b) + number_of n marks b

    sizes : (size n own ≡ size n (group_of a) + size n (group_of b)) × (0 < size n (group_of a)) × (0 < size n (group_of b))
    sizes = rw rest at (split_sizes n marks own (group_of a) own< split)

    several : size n own ≢ 1
    several one = omega (arith, sizes)

    small : number < split_counted n marks own (group_of a)
    unfolding split_count
    small = rw rest (digits_lt a_small b_small)

    gate_below : number_of n marks (gate a b) < group_trees n marks own
    unfolding number_of group_of
    gate_below =
        rw (count_several n marks own own< twos.0 several)
        (before_below (split_counted n marks own) (splits_of n marks own) (group_of a) number (is_split n marks own (group_of a) split) small)

    gate_wired : (fuel : ℕ) → size n own ≤ fuel
        → ((fuel : ℕ) → size n (group_of a) ≤ fuel → wired n marks fuel (group_of a) (number_of n marks a) ≡ a)
        → ((fuel : ℕ) → size n (group_of b) ≤ fuel → wired n marks fuel (group_of b) (number_of n marks b) ≡ b)
        → wired n marks fuel own (number_of n marks (gate a b)) ≡ gate a b
    unfolding number_of
    gate_wired zero enough left right = absurd (omega (arith, sizes))
    gate_wired (suc fuel) enough left right =
        wired_several n marks fuel own (number_of n marks (gate a b)) several
        ∙ ap (wired_at fuel own)
        (numbered_before (split_counted n marks own) (splits_of n marks own) (group_of a) number (is_split n marks own (group_of a) split) small)
        ∙ rw (rest, digits_div (number_of n marks a) b_small, digits_mod (number_of n marks a) b_small)
        (ap₂ gate (left fuel (omega (arith, sizes))) (right fuel (omega (arith, sizes))))

  -- Each wiring that counts has a number below the count, and is the wiring of that number.
  pub number_wired : (w : Wiring) → EachOnce n w → AllTwos n marks w → Normal n w
      → (number_of n marks w < group_trees n marks (group_of w)) × ((fuel : ℕ) → size n (group_of w) ≤ fuel → wired n marks fuel (group_of w) (number_of n marks w) ≡ w)
  unfolding group_of
  number_wired (input i) once twos norm =
      let i< : 2 ^ i < 2 ^ n = group_below n (input i) once in
      let one = size_single i n once in
      unfold number_of in
      (omega (arith, count_single n marks (2 ^ i) i< twos one), λ fuel enough. (wired_single n marks) fuel (2 ^ i) 0 one ∙ ap input (first_single n i once))
  number_wired (gate a b) once twos norm =
      let of_a = number_wired a once.1 twos.1 norm.1 in
      let of_b_lem = number_wired b once.2 twos.2 norm.2 in
      (gate_below a b once twos norm of_a.0 of_b_lem.0, λ fuel enough. gate_wired a b once twos norm of_a.0 of_b_lem.0 fuel enough of_a.1 of_b_lem.1)
