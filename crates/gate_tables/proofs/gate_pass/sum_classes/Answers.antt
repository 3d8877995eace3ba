-- `gate_tables::gate_pass::sum_classes` meets its contract. The loop's invariant: the classes of the sums done are known. Each turn does one sum.
-- Assumes nothing.
use Rattle.laws.specs.Prelude.{◌∙◌, arith, length-set}
use Rattle.gate_tables.specs.GateRows.{sums_fewer}
use Rattle.gate_tables.specs.GatePass.{joint_below, sides_few, sum_facts, sum_within, kept_inside, at_end, at_many, at_next}
use Rattle.gate_tables.proofs.gate_pass.sum_classes.Goals as goal

pub other_offsets-other-requires : goal.other_offsets-other-requires
other_offsets-other-requires c =
    let sized = c.requires.0.sized in
    (sized.some, omega (arith, sized.inputs), omega (arith, sized.small), c.requires.1.for_ys, joint_below _ _ _ _ _ _ _ c.requires.0)

pub least_sum-requires : goal.least_sum-requires
least_sum-requires c = omega (arith, sides_few _ _ _ _ _ _ _ c.requires.0, c.requires.0.sized.levels, c.loop-u.invariant.2.for_next)

pub overflow_cast-firsts : goal.overflow_cast-firsts
overflow_cast-firsts c =
    let row = c.in-Some.ensures in
    omega (arith, (sum_facts _ _ _ _ _ _ _ c.requires.0 _ _ _ _ _ _ _ c.loop-u.invariant.2 _ _ row).small, row.is)

pub class_of-class-requires : goal.class_of-class-requires
class_of-class-requires c =
    let at = c.loop-u.invariant.2 in
    let row = c.in-Some.ensures in
    let facts = sum_facts _ _ _ _ _ _ _ c.requires.0 _ _ _ _ _ _ _ at _ _ row in (
      omega (arith, length-set c.loop-u.firsts c.loop-u.count c.in-Some.p, facts.room),
      sum_within _ _ _ _ _ _ _ c.requires.0 _ _ _ _ _ _ _ at _ _ row,
      kept_inside _ _ _ _ _ _ _ c.requires.0 _ _ _ _ _ _ _ at _,
    )

pub returns-then-m-class : goal.returns-then-m-class
returns-then-m-class c =
    at_many _ _ _ _ _ _ _ c.requires.0 _ _ _ _ _ _ _ c.loop-u.invariant.2 _ _ c.in-Some.ensures c.class_of-class.result c.class_of-class.ensures
    c.if-m-class.true

pub given-requires : goal.given-requires
given-requires c =
    let row = c.in-Some.ensures in
    let facts = sum_facts _ _ _ _ _ _ _ c.requires.0 _ _ _ _ _ _ _ c.loop-u.invariant.2 _ _ row in
    (omega (arith, c.if-m-class.false, c.requires.0.sized.levels), omega (arith, facts.inside, row.is))

pub put_digit-requires : goal.put_digit-requires
put_digit-requires c =
    let facts = sum_facts _ _ _ _ _ _ _ c.requires.0 _ _ _ _ _ _ _ c.loop-u.invariant.2 _ _ c.in-Some.ensures in
    (omega (arith, facts.short, c.loop-u.invariant.2.for_next), facts.column, facts.place)

pub loop-u-smaller : goal.loop-u-smaller
loop-u-smaller c =
    let row = c.in-Some.ensures in
    let facts = sum_facts _ _ _ _ _ _ _ c.requires.0 _ _ _ _ _ _ _ c.loop-u.invariant.2 _ _ row in
    rw c.put_digit.ensures.0
    (sums_fewer _ _ c.loop-u.next c.in-Some.u row.below (omega (arith, facts.short, c.loop-u.invariant.2.for_next)) row.some)

pub loop-u-preserved : goal.loop-u-preserved
loop-u-preserved c =
    let inv = c.loop-u.invariant in (
      length-set c.loop-u.firsts c.loop-u.count _ ∙ inv.0,
      c.put_digit.auto.table ∙ inv.1,
      at_next _ _ _ _ _ _ _ c.requires.0 _ _ _ _ _ _ _ inv.2 _ _ c.in-Some.ensures c.class_of-class.result c.class_of-class.ensures c.if-m-class.false
          c.max-count.result (λ old. omega (arith, c.max-count.ensures), λ new. omega (arith, c.max-count.ensures)) c.given.result c.given.ensures
          _ _ c.put_digit.ensures,
    )

pub returns : goal.returns
returns c = at_end _ _ _ _ _ _ _ c.requires.0 _ _ _ _ _ _ _ c.loop-u.invariant.2 c.in_default.ensures
