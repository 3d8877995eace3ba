-- The numbers below a group's count and the normal wirings of the group whose groups all have mark 2 correspond one to one: the wiring of a number,
-- and the number of a wiring. Marks are any list here.
-- Assumes nothing.
use Rattle.std.specs.Prelude.{◌<◌, ◌+◌, ◌-◌, ◌^◌, ◌*◌, ◌%◌, ◌/◌, ◌≡◌, ◌≢◌}
use Rattle.laws.specs.Prelude.{ℕ, suc, zero, refl, List, mod-lt, div-lt_iff_lt-mul}
use Rattle.laws.specs.Prelude.{mul-zero, arith, ne_eqb}
use Rattle.rules.specs.Groups.Groups.{size}
use Rattle.rules.specs.Groups.Marks.{mark_in}
use Rattle.rules.specs.Nets.Family.{splits_of, split_count, counts_of, Numbered, numbered_at, family_wiring}
use Rattle.rules.specs.Nets.Wirings.{Wiring, input, gate, group_of, first_input}
use Rattle.rules.specs.Sheets.SheetRules.{Distinct}
use Rattle.rules.specs.Nets.SettledLaws.{MayBeA}
use Rattle.laws.specs.Lists.Totals.{before, Placed, numbered_placed, those_range_distinct}
use Rattle.trees.specs.Trees.Trees.{WiringOf}
use Rattle.trees.specs.Groups.Members.{size_join, size_pos, rest_apart}
use Rattle.trees.specs.Trees.MarkTwo.{is_a}
use Rattle.trees.specs.Families.NormalWirings.{Normal}
use Rattle.trees.specs.Families.FamilyCounts.{split_is, group_trees, split_counted, count_several, counted_two}

-- if x < p * q, then q is not 0
factor_some : (x p q : ℕ) → x < p * q → 0 < q
factor_some x p zero h = absurd (omega (arith, mul-zero p))
factor_some x p (suc q) h = omega arith

module _ (n : ℕ) (marks : List ℕ) where
  -- every gate's group has mark 2, and every input's
  abbrev pub AllTwos : Wiring → Type 0
  AllTwos (input i) = mark_in marks (2 ^ i) ≡ 2
  AllTwos (gate a b) = (mark_in marks (group_of (gate a b)) ≡ 2) × AllTwos a × AllTwos b

  pub own_two : (w : Wiring) → AllTwos w → mark_in marks (group_of w) ≡ 2
  unfolding group_of
  own_two (input i) twos = twos
  own_two (gate a b) twos = twos.0

  -- a wiring that counts for group g
  pub record InFamily (g : ℕ) (w : Wiring) : Type 0 where
    pub of : WiringOf n g w
    pub twos : AllTwos w
    pub norm : Normal n w

  -- "The order is by A's number, then A's tree, then B's."
  unfoldable pub number_of : Wiring → ℕ
  number_of (input i) = 0
  number_of (gate a b) =
      before (split_counted n marks (group_of a + group_of b)) (splits_of n marks (group_of a + group_of b)) (group_of a)
      + (number_of a * group_trees n marks (group_of b) + number_of b)

  -- ---- the wiring of a number, by its last gate

  -- the wiring of a number below the count
  abbrev pub wired : ℕ → ℕ → ℕ → Wiring
  wired fuel g r = family_wiring n marks (counts_of n marks) fuel g r

  -- the wiring, if the split and the number in it are known
  abbrev wired_at : ℕ → ℕ → Numbered → Wiring
  wired_at fuel g at =
      gate (wired fuel at.part (at.number / group_trees n marks (g - at.part))) (wired fuel (g - at.part) (at.number % group_trees n marks (g - at.part)))

  pub wired_single : (fuel g r : ℕ) → size n g ≡ 1 → wired fuel g r ≡ input (first_input n g)
  unfolding family_wiring
  wired_single zero g r one = refl
  wired_single (suc fuel) g r one = rw (one, family_wiring)

  pub wired_several : (fuel g r : ℕ) → size n g ≢ 1 → wired (suc fuel) g r ≡ wired_at fuel g (numbered_at (split_counted n marks g) (splits_of n marks g) r)
  unfolding family_wiring
  wired_several fuel g r several = rw (ne_eqb (size n g) 1 several, family_wiring)

  -- ---- a split

  splits_distinct : (g : ℕ) → Distinct (splits_of n marks g)
  unfolding splits_of
  splits_distinct g = those_range_distinct (is_a n marks g) 1 (g - 1)

  module _ (g a : ℕ) (g< : g < 2 ^ n) (split : MayBeA n marks g a) where
    pub split_a_below : a < 2 ^ n
    split_a_below = omega (arith, split.less)

    pub split_b_below : g - a < 2 ^ n
    split_b_below = omega arith

    -- both parts have fewer members
    pub split_sizes : (size n g ≡ size n a + size n (g - a)) × (0 < size n a) × (0 < size n (g - a))
    split_sizes =
        let whole : a + (g - a) ≡ g = omega (arith, split.less) in (
          rw whole at (size_join n a (g - a) split_a_below split_b_below (rest_apart n a g split_a_below g< split.part)),
          size_pos n a split_a_below split.some,
          size_pos n (g - a) split_b_below (omega (arith, split.less)),
        )

  -- ---- from a number to a wiring

  -- the split of number r of g and the number in it: each part has its own number
  pub record SplitAt (g r : ℕ) (at : Numbered) : Type 0 where
    pub split : MayBeA n marks g at.part
    pub rest_some : 0 < group_trees n marks (g - at.part)
    pub left : at.number / group_trees n marks (g - at.part) < group_trees n marks at.part
    pub right : at.number % group_trees n marks (g - at.part) < group_trees n marks (g - at.part)
    pub again : before (split_counted n marks g) (splits_of n marks g) at.part + at.number ≡ r

  -- where a number of a group with several members falls
  pub number_split : (g r : ℕ) → g < 2 ^ n → size n g ≢ 1 → r < group_trees n marks g → SplitAt g r (numbered_at (split_counted n marks g) (splits_of n marks g) r)
  number_split g r g< several h =
      let two = counted_two n marks g g< (omega arith) in
      let placed : Placed (split_counted n marks g) (splits_of n marks g) r =
      numbered_placed (split_counted n marks g) (splits_of n marks g) (splits_distinct g) r (rw (count_several n marks g g< two several) at h) in
      let at : Numbered = numbered_at (split_counted n marks g) (splits_of n marks g) r in
      let small : at.number < group_trees n marks at.part * group_trees n marks (g - at.part) = unfold split_count in placed.below in
      let some : 0 < group_trees n marks (g - at.part) = factor_some at.number (group_trees n marks at.part) (group_trees n marks (g - at.part)) small in
      record {
        split = split_is n marks g at.part placed.listed;
        rest_some = some;
        left = (div-lt_iff_lt-mul some).1 small;
        right = mod-lt at.number some;
        again = placed.again;
      }

  -- a wiring that counts, with its number
  pub record HasNumber (g r : ℕ) (w : Wiring) : Type 0 where
    pub family : InFamily g w
    pub number : number_of w ≡ r
