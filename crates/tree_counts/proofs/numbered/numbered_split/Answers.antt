-- `tree_counts::numbered::numbered_split` meets its contract. The loop's invariant: the recorded counts are right, and among the remaining splits the
-- rest of the number falls where the number falls among all. Assumes nothing.
use Rattle.laws.specs.Prelude.{◌∙◌, refl, arith}
use Rattle.rules.specs.Limits.{most_inputs}
use Rattle.tree_counts.specs.Walking.{passed_none, passed_next, looked, left_all, left_none, left_here, left_later}
use Rattle.tree_counts.proofs.numbered.numbered_split.Goals as goal

pub overflow_sub-first : goal.overflow_sub-first
overflow_sub-first c = omega (arith, c.without_first-rest.ensures most_inputs c.requires.0.below)

pub loop-part-init : goal.loop-part-init
loop-part-init c =
    let rest = c.without_first-rest in
    let group = c.requires.0 in
    (refl, group.kept, passed_none rest.result, left_all c.args.marks.now c.args.g rest.result group.some rest.ensures c.args.r)

pub known_split-count-requires : goal.known_split-count-requires
known_split-count-requires c =
    let rest = c.without_first-rest in
    let group = c.requires.0 in
    let l = c.loop-part in
    looked c.args.marks.now c.args.g rest.result group.some rest.ensures c.args.counts.now l.counts group c.requires.1 l.invariant.0 l.invariant.1
    l.part c.loop-part-test.true l.invariant.2

pub returns-then-left-count : goal.returns-then-left-count
returns-then-left-count c =
    let rest = c.without_first-rest in
    let group = c.requires.0 in
    let l = c.loop-part in
    let split = c.known_split-count in
    record {
      is = left_here c.args.marks.now c.args.g rest.result group.some rest.ensures c.args.r l.part l.left split.result c.loop-part-test.true
          l.invariant.2 l.invariant.3 split.ensures.count group.below c.if-left-count.true;
      kept = split.ensures.kept;
    }

-- it falls later
pub next_part-part-requires : goal.next_part-part-requires
next_part-part-requires c =
    let below = c.requires.0.below in
    (omega (arith, c.without_first-rest.ensures most_inputs below, below), c.loop-part-test.true, c.loop-part.invariant.2.is_part)

pub loop-part-preserved : goal.loop-part-preserved
loop-part-preserved c =
    let rest = c.without_first-rest in
    let l = c.loop-part in
    let split = c.known_split-count in
    let next = c.next_part-part in (
      split.auto.counts ∙ l.invariant.0,
      split.ensures.kept,
      passed_next rest.result l.part next.result c.loop-part-test.true next.ensures,
      left_later c.args.marks.now c.args.g rest.result c.requires.0.some rest.ensures c.args.r l.part l.left split.result c.loop-part-test.true
          l.invariant.2 l.invariant.3 split.ensures.count next.result next.ensures c.if-left-count.false,
    )

pub returns : goal.returns
returns c =
    let rest = c.without_first-rest in
    let l = c.loop-part in
    record {
      is = left_none c.args.marks.now c.args.g rest.result c.requires.0.some rest.ensures c.args.r l.part l.left l.invariant.3 c.loop-part-test.false;
      kept = l.invariant.1;
    }
