-- `tree_counts::counts::group_count`, `known_split` and `split_count`, which call each other, meet their contracts. The measure is three times the number
-- of members, one less for a split, and one less still where its count is not recorded. The loop's invariant: the recorded counts are right, and the sum is
-- that of the splits passed. Assumes nothing.
use Rattle.std.specs.Prelude.{◌<◌, ◌^◌, ◌≡◌, ◌≢◌, ◌*◌}
use Rattle.laws.specs.Prelude.{ℕ, ◌∙◌, sym, refl, arith, eqb-true, eqb-false, ap₂}
use Rattle.rules.specs.Limits.{most_inputs}
use Rattle.rules.specs.Groups.Groups.{size}
use Rattle.trees.specs.Groups.Members.{size_pos}
use Rattle.trees.specs.Families.FamilyCounts.{group_trees, split_counted, no_parts_count, count_single}
use Rattle.trees.proofs.Families.FamilyBounds.{group_trees_fit}
use Rattle.tree_counts.specs.Counts.{one_kept, product_fits, product_split, splittable_sizes, smaller, split_none, split_fits}
use Rattle.tree_counts.specs.Walking.{passed_none, passed_next, looked, summed_none, summed_next, summed_all, summed_most}
use Rattle.rules.specs.Nets.Family.{split_count}
use Rattle.tree_counts.proofs.counts.+group_count_split_count.Goals as goal

-- ---- a group

-- a mark other than 2
pub group_count-returns-then-mark_at-ne2 : goal.group_count-returns-then-mark_at-ne2
group_count-returns-then-mark_at-ne2 t c =
    record {
      count = λ n g<. sym (no_parts_count n _ _ g< (λ is. c.if-mark_at-ne2.true (c.mark_at.ensures ∙ is)));
      kept = c.requires.kept;
    }

pub group_count-returns-then-single : goal.group_count-returns-then-single
group_count-returns-then-single t c =
    let g = c.args.g in
    let marks = c.args.marks.now in
    let is_one : (n : ℕ) → g < 2 ^ n → 1 ≡ group_trees n marks g = λ n g<.
    sym
    (count_single n marks g g< (sym c.mark_at.ensures ∙ c.if-mark_at-ne2.false)
    (eqb-true (size n g) 1 (sym (c.single.ensures n g<) ∙ c.if-single.true))) in
    record { count = is_one; kept = one_kept marks c.args.counts.now g 1 c.requires.kept c.requires.room is_one }

pub group_count-overflow_sub-first : goal.group_count-overflow_sub-first
group_count-overflow_sub-first t c = omega (arith, c.without_first-rest.ensures most_inputs c.requires.below)

pub group_count-loop-part-init : goal.group_count-loop-part-init
group_count-loop-part-init t c =
    let rest = c.without_first-rest in
    (refl, c.requires.kept, passed_none rest.result, summed_none c.args.marks.now c.args.g rest.result c.requires.some rest.ensures)

pub group_count-known_split-sum-requires : goal.group_count-known_split-sum-requires
group_count-known_split-sum-requires t c =
    let g = c.args.g in
    let rest = c.without_first-rest in
    let l = c.loop-part in (
      omega (arith, c.decreases, size_pos most_inputs g c.requires.below c.requires.some),
      looked c.args.marks.now g rest.result c.requires.some rest.ensures c.args.counts.now l.counts c.requires
          (sym c.mark_at.ensures ∙ c.if-mark_at-ne2.false) l.invariant.0 l.invariant.1 l.part c.loop-part-test.true l.invariant.2,
    )

pub group_count-overflow_add-sum : goal.group_count-overflow_add-sum
group_count-overflow_add-sum t c =
    let g = c.args.g in
    let marks = c.args.marks.now in
    let rest = c.without_first-rest in
    let l = c.loop-part in
    let several : (n : ℕ) → g < 2 ^ n → size n g ≢ 1 = λ n g<. eqb-false (size n g) 1 (sym (c.single.ensures n g<) ∙ c.if-single.false) in
    omega (
      arith,
      summed_most marks g rest.result c.requires.some rest.ensures l.part l.sum c.known_split-sum.result c.requires.below c.loop-part-test.true
          l.invariant.2 l.invariant.3 c.known_split-sum.ensures.count (sym c.mark_at.ensures ∙ c.if-mark_at-ne2.false) several,
      group_trees_fit most_inputs marks (omega arith) g,
    )

pub group_count-next_part-part-requires : goal.group_count-next_part-part-requires
group_count-next_part-part-requires t c =
    (omega (arith, c.without_first-rest.ensures most_inputs c.requires.below, c.requires.below), c.loop-part-test.true, c.loop-part.invariant.2.is_part)

pub group_count-loop-part-preserved : goal.group_count-loop-part-preserved
group_count-loop-part-preserved t c =
    let rest = c.without_first-rest in
    let l = c.loop-part in
    let split = c.known_split-sum in
    let next = c.next_part-part in (
      split.auto.counts ∙ l.invariant.0,
      split.ensures.kept,
      passed_next rest.result l.part next.result c.loop-part-test.true next.ensures,
      summed_next c.args.marks.now c.args.g rest.result c.requires.some rest.ensures l.part next.result l.sum split.result c.loop-part-test.true
          l.invariant.2 next.ensures l.invariant.3 split.ensures.count,
    )

pub group_count-returns : goal.group_count-returns
group_count-returns t c =
    let g = c.args.g in
    let marks = c.args.marks.now in
    let rest = c.without_first-rest in
    let l = c.loop-part in
    let several : (n : ℕ) → g < 2 ^ n → size n g ≢ 1 = λ n g<. eqb-false (size n g) 1 (sym (c.single.ensures n g<) ∙ c.if-single.false) in
    let is_count : (n : ℕ) → g < 2 ^ n → l.sum ≡ group_trees n marks g =
    summed_all marks g rest.result c.requires.some rest.ensures l.part l.sum l.invariant.3 c.loop-part-test.false
    (sym c.mark_at.ensures ∙ c.if-mark_at-ne2.false) several in
    record { count = is_count; kept = one_kept marks l.counts g l.sum l.invariant.1 (omega (arith, l.invariant.0, c.requires.room)) is_count }

-- ---- a split, whose count may be recorded

pub known_split-kept_product-product-requires : goal.known_split-kept_product-product-requires
known_split-kept_product-product-requires t c = (c.requires.less, c.requires.group.room, product_fits _ _ _ _ c.requires)

pub known_split-returns-then-product-ne0 : goal.known_split-returns-then-product-ne0
known_split-returns-then-product-ne0 t c =
    let is = c.kept_product-product.ensures in
    record {
      count = λ n g<. is ∙ product_split _ _ _ _ c.requires (λ none. c.if-product-ne0.true (is ∙ none)) n g<;
      kept = c.requires.group.kept;
    }

pub known_split-split_count-requires : goal.known_split-split_count-requires
known_split-split_count-requires t c =
    (omega (arith, c.decreases, size_pos most_inputs c.args.g c.requires.group.below c.requires.group.some), c.requires)

-- ---- a split

-- a part has a mark other than 2
pub split_count-returns-then-not-both_two : goal.split_count-returns-then-not-both_two
split_count-returns-then-not-both_two t c =
    record {
      count = λ n g<. sym (split_none n _ _ _ g< c.requires.some c.requires.less (sym c.both_two.ensures ∙ c.if-not-both_two.true));
      kept = c.requires.group.kept;
    }

pub split_count-group_count-left-requires : goal.split_count-group_count-left-requires
split_count-group_count-left-requires t c =
    let is = c.requires in (
      omega (arith, c.decreases, splittable_sizes _ _ _ _ most_inputs is.group.below is),
      smaller _ _ _ _ _ is.group is.some is.less refl is.group.kept,
    )

pub split_count-group_count-right-requires : goal.split_count-group_count-right-requires
split_count-group_count-right-requires t c =
    let is = c.requires in (
      omega (arith, c.decreases, splittable_sizes _ _ _ _ most_inputs is.group.below is),
      smaller _ _ _ _ _ is.group (omega (arith, is.less)) (omega (arith, is.some, is.less)) c.group_count-left.auto.counts c.group_count-left.ensures.kept,
    )

pub split_count-overflow_mul-result : goal.split_count-overflow_mul-result
unfolding split_count
split_count-overflow_mul-result t c =
    let below = c.requires.group.below in
    let is_product : c.group_count-left.result * c.group_count-right.result ≡ split_counted most_inputs c.args.marks.now c.args.g c.args.a =
    ap₂ ◌*◌ (c.group_count-left.ensures.count most_inputs (omega (arith, c.requires.less, below)))
    (c.group_count-right.ensures.count most_inputs (omega (arith, below))) in
    omega (arith, is_product, split_fits _ _ _ _ c.requires)

pub split_count-returns : goal.split_count-returns
unfolding split_count
split_count-returns t c =
    record {
      count = λ n g<. ap₂ ◌*◌ (c.group_count-left.ensures.count n (omega (arith, c.requires.less))) (c.group_count-right.ensures.count n (omega arith));
      kept = c.group_count-right.ensures.kept;
    }
