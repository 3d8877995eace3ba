-- `tree_counts::numbered::wire_numbered` meets its contract. The measure is the group's number: both parts of a split are below it. Assumes nothing.
use Rattle.std.specs.Prelude.{◌<◌, ◌+◌, ◌-◌, ◌^◌, ◌≡◌, ◌≢◌}
use Rattle.laws.specs.Prelude.{ℕ, Bool, true, false, ◌∙◌, sym, subst, List, arith, length, eqb, eqb-true, eqb-false}
use Rattle.rules.specs.Groups.Groups.{size}
use Rattle.rules.specs.Nets.Wirings.{first_input}
use Rattle.rules.specs.Nets.Family.{splits_of, numbered_at}
use Rattle.trees.specs.Groups.Members.{size_one}
use Rattle.trees.specs.Families.FamilyCounts.{group_trees, split_counted, counted_two}
use Rattle.tree_counts.specs.declared.numbered.Numbered.{Numbered}
use Rattle.tree_counts.specs.Counts.{Countable, CountsKnown, smaller}
use Rattle.tree_counts.specs.Numbered.{InCount, NumberWired, SplitFound, numbered_single, tree_count_part_less, tree_count_part_sizes, count_some, left_in}
use Rattle.tree_counts.specs.Numbered.{right_in, numbered_several}
use Rattle.tree_counts.proofs.numbered.+wire_numbered.Goals as goal

-- ---- a single input

module _ (n : ℕ) (marks : List ℕ) (g r : ℕ) (in_count : InCount n marks g r) (single : Bool) (is : single ≡ eqb (size n g) 1) (e : single ≡ true) where
  one : size n g ≡ 1
  one = eqb-true (size n g) 1 (sym is ∙ e)

  only : first_input n g < n
  only = (size_one n g in_count.below one).0

pub overflow_cast-result : goal.overflow_cast-result
overflow_cast-result t c =
    let a = c.args in
    let in_count = c.requires.1 in
    omega (
      arith,
      c.first_input.ensures,
      in_count.inputs,
      only a.n a.marks.now a.g a.r in_count c.single.result (c.single.ensures a.n in_count.below) c.if-single.true,
    )

pub returns-then-single : goal.returns-then-single
returns-then-single t c =
    let a = c.args in
    let in_count = c.requires.1 in
    let is = c.single.ensures a.n in_count.below in
    subst (λ (k : ℕ). NumberWired a.n a.marks.now a.g a.r a.wiring a.wiring k a.counts.now) (sym c.first_input.ensures)
    (numbered_single a.n a.marks.now a.g a.r a.wiring a.counts.now
    (only a.n a.marks.now a.g a.r in_count c.single.result is c.if-single.true)
    (one a.n a.marks.now a.g a.r in_count c.single.result is c.if-single.true)
    c.requires.0.kept)

-- ---- several: the split

-- the part that the number falls in, and B's count
module _ (n : ℕ) (marks : List ℕ) (g r : ℕ) (in_count : InCount n marks g r) (single : Bool) (is : single ≡ eqb (size n g) 1) (e : single ≡ false)
    (s : Numbered) (after : List ℕ) (found : SplitFound marks g r s after) where
  several : size n g ≢ 1
  several = eqb-false (size n g) 1 (sym is ∙ e)

  fallen : record { part = s.part; number = s.number } ≡ numbered_at (split_counted n marks g) (splits_of n marks g) r
  fallen = found.is n in_count.below

  less : (0 < s.part) × (s.part < g)
  less = tree_count_part_less n marks g r in_count several s.part s.number fallen

  sizes : (size n g ≡ size n s.part + size n (g - s.part)) × (0 < size n s.part) × (0 < size n (g - s.part))
  sizes = tree_count_part_sizes n marks g r in_count several s.part s.number fallen

  -- each part has its recorded counts
  a_countable : (counts later : List ℕ) → Countable marks counts g → length later ≡ length counts → CountsKnown marks later → Countable marks later s.part
  a_countable counts later group = smaller marks counts later g s.part group less.0 less.1

  b_countable : (counts later : List ℕ) → Countable marks counts g → length later ≡ length counts → CountsKnown marks later
      → Countable marks later (g - s.part)
  b_countable counts later group = smaller marks counts later g (g - s.part) group (omega (arith, less)) (omega (arith, less))

  module _ (count : ℕ) (counted : (k : ℕ) → g - s.part < 2 ^ k → count ≡ group_trees k marks (g - s.part)) where
    is_count : count ≡ group_trees n marks (g - s.part)
    is_count = counted n (omega (arith, less, in_count.below))

    some : 0 < count
    some = count_some n marks g r in_count several s.part s.number fallen count is_count

pub numbered_split-split-requires : goal.numbered_split-split-requires
numbered_split-split-requires t c =
    let a = c.args in
    (c.requires.0, counted_two a.n a.marks.now a.g c.requires.1.below (omega (arith, c.requires.1.number)))

pub overflow_sub-g : goal.overflow_sub-g
overflow_sub-g t c =
    let a = c.args in
    let in_count = c.requires.1 in
    let split = c.numbered_split-split in
    omega (arith, less a.n a.marks.now a.g a.r in_count _ (c.single.ensures a.n in_count.below) c.if-single.false split.result split.new.counts split.ensures)

pub group_count-count-requires : goal.group_count-count-requires
group_count-count-requires t c =
    let a = c.args in
    let in_count = c.requires.1 in
    let split = c.numbered_split-split in
    let part_less = less a.n a.marks.now a.g a.r in_count _ (c.single.ensures a.n in_count.below) c.if-single.false split.result split.new.counts
    split.ensures in
    smaller _ _ _ _ _ c.requires.0 (omega (arith, part_less)) (omega (arith, part_less)) split.auto.counts split.ensures.kept

-- ---- A's links

pub nonzero_div-number : goal.nonzero_div-number
nonzero_div-number t c =
    let a = c.args in
    let in_count = c.requires.1 in
    let split = c.numbered_split-split in
    some a.n a.marks.now a.g a.r in_count _ (c.single.ensures a.n in_count.below) c.if-single.false split.result split.new.counts split.ensures
    c.group_count-count.result c.group_count-count.ensures.count

pub wire_numbered-left-requires : goal.wire_numbered-left-requires
wire_numbered-left-requires t c =
    let a = c.args in
    let in_count = c.requires.1 in
    let is = c.single.ensures a.n in_count.below in
    let split = c.numbered_split-split in
    let count = c.group_count-count in
    let part_less = less a.n a.marks.now a.g a.r in_count _ is c.if-single.false split.result split.new.counts split.ensures in (
      omega (arith, part_less, c.decreases),
      (
        a_countable a.n a.marks.now a.g a.r in_count _ is c.if-single.false split.result split.new.counts split.ensures
            a.counts.now _ c.requires.0 (count.auto.counts ∙ split.auto.counts) count.ensures.kept,
        left_in a.n a.marks.now a.g a.r in_count (several a.n a.marks.now a.g a.r in_count _ is c.if-single.false split.result split.new.counts split.ensures)
            split.result.part split.result.number (split.ensures.is a.n in_count.below) count.result
            (is_count a.n a.marks.now a.g a.r in_count _ is c.if-single.false split.result split.new.counts split.ensures count.result count.ensures.count),
        omega (
          arith,
          sizes a.n a.marks.now a.g a.r in_count _ is c.if-single.false split.result split.new.counts split.ensures,
          c.requires.2,
        ),
      ),
    )

-- ---- B's links

pub overflow_sub-g-2 : goal.overflow_sub-g-2
overflow_sub-g-2 t c =
    let a = c.args in
    let in_count = c.requires.1 in
    let split = c.numbered_split-split in
    omega (arith, less a.n a.marks.now a.g a.r in_count _ (c.single.ensures a.n in_count.below) c.if-single.false split.result split.new.counts split.ensures)

pub nonzero_rem-number : goal.nonzero_rem-number
nonzero_rem-number t c =
    let a = c.args in
    let in_count = c.requires.1 in
    let split = c.numbered_split-split in
    some a.n a.marks.now a.g a.r in_count _ (c.single.ensures a.n in_count.below) c.if-single.false split.result split.new.counts split.ensures
    c.group_count-count.result c.group_count-count.ensures.count

pub wire_numbered-right-requires : goal.wire_numbered-right-requires
wire_numbered-right-requires t c =
    let a = c.args in
    let in_count = c.requires.1 in
    let is = c.single.ensures a.n in_count.below in
    let split = c.numbered_split-split in
    let count = c.group_count-count in
    let left = c.wire_numbered-left in
    let part_less = less a.n a.marks.now a.g a.r in_count _ is c.if-single.false split.result split.new.counts split.ensures in (
      omega (arith, part_less, c.decreases),
      (
        b_countable a.n a.marks.now a.g a.r in_count _ is c.if-single.false split.result split.new.counts split.ensures
            a.counts.now _ c.requires.0 (left.auto.counts ∙ count.auto.counts ∙ split.auto.counts) left.ensures.kept,
        right_in a.n a.marks.now a.g a.r in_count (several a.n a.marks.now a.g a.r in_count _ is c.if-single.false split.result split.new.counts split.ensures)
            split.result.part split.result.number (split.ensures.is a.n in_count.below) count.result
            (is_count a.n a.marks.now a.g a.r in_count _ is c.if-single.false split.result split.new.counts split.ensures count.result count.ensures.count),
        omega (
          arith,
          left.ensures.count,
          sizes a.n a.marks.now a.g a.r in_count _ is c.if-single.false split.result split.new.counts split.ensures,
          c.requires.2,
        ),
      ),
    )

-- ---- the group's own

pub overflow_add-reference : goal.overflow_add-reference
overflow_add-reference t c =
    let a = c.args in
    let in_count = c.requires.1 in
    let split = c.numbered_split-split in
    omega (
      arith,
      c.wire_numbered-left.ensures.count,
      c.wire_numbered-right.ensures.count,
      sizes a.n a.marks.now a.g a.r in_count _ (c.single.ensures a.n in_count.below) c.if-single.false split.result split.new.counts split.ensures,
      c.requires.2,
      in_count.inputs,
    )

pub overflow_cast-reference : goal.overflow_cast-reference
overflow_cast-reference t c =
    let a = c.args in
    let in_count = c.requires.1 in
    let split = c.numbered_split-split in
    omega (
      arith,
      c.wire_numbered-left.ensures.count,
      c.wire_numbered-right.ensures.count,
      sizes a.n a.marks.now a.g a.r in_count _ (c.single.ensures a.n in_count.below) c.if-single.false split.result split.new.counts split.ensures,
      c.requires.2,
      in_count.inputs,
    )

pub link-all-requires : goal.link-all-requires
link-all-requires t c =
    let a = c.args in
    let in_count = c.requires.1 in
    let split = c.numbered_split-split in
    omega (
      arith,
      c.wire_numbered-left.ensures.count,
      c.wire_numbered-right.ensures.count,
      sizes a.n a.marks.now a.g a.r in_count _ (c.single.ensures a.n in_count.below) c.if-single.false split.result split.new.counts split.ensures,
      c.requires.2,
      in_count.inputs,
    )

pub returns : goal.returns
returns t c =
    let a = c.args in
    let in_count = c.requires.1 in
    let is = c.single.ensures a.n in_count.below in
    let split = c.numbered_split-split in
    let count = c.group_count-count in
    let left = c.wire_numbered-left in
    let right = c.wire_numbered-right in
    numbered_several a.n a.marks.now a.g a.r in_count
    (several a.n a.marks.now a.g a.r in_count _ is c.if-single.false split.result split.new.counts split.ensures) split.result.part split.result.number
    (split.ensures.is a.n in_count.below) count.result
    (is_count a.n a.marks.now a.g a.r in_count _ is c.if-single.false split.result split.new.counts split.ensures count.result count.ensures.count)
    a.wiring left.result.wiring right.result.wiring c.link-all.result left.result.reference right.result.reference
    left.new.counts right.new.counts left.ensures right.ensures c.link-all.ensures
