-- `marks::split::split_of` meets its contract. The loop's invariant: the search from the current part on gives the same result.
-- Assumes nothing.
use Rattle.laws.specs.Prelude.{◌∙◌, sym, arith}
use Rattle.rules.specs.Nets.Settled.{split_of}
use Rattle.radix.specs.Widths.{most_members}
use Rattle.marks.specs.FirstParts.{settled_looked}
use Rattle.marks.specs.Searching.{sought_none, sought_all, part_looked_at, sought_found, sought_next}
use Rattle.marks.proofs.split.split_of.Goals as goal

pub overflow_sub-first : goal.overflow_sub-first
overflow_sub-first c = omega (arith, c.without_first-rest.ensures most_members c.requires.1)

pub loop-part-init : goal.loop-part-init
loop-part-init c =
    sought_none _ _ c.args.g c.without_first-rest.result (settled_looked c.args.marks.now c.args.g) c.requires.0
    c.without_first-rest.ensures

pub returns-then-both_two : goal.returns-then-both_two
unfolding split_of
returns-then-both_two c =
    let l = c.loop-part in
    sought_found _ _ c.args.g c.without_first-rest.result (settled_looked c.args.marks.now c.args.g) c.requires.0
    c.without_first-rest.ensures l.part l.invariant c.loop-part-test.true
    (sym c.both_two.ensures ∙ c.if-both_two.true)

pub next_part-part-requires : goal.next_part-part-requires
next_part-part-requires c =
    (omega (arith, c.without_first-rest.ensures most_members c.requires.1), c.loop-part-test.true, c.loop-part.invariant.is_part)

pub loop-part-preserved : goal.loop-part-preserved
loop-part-preserved c =
    let l = c.loop-part in
    sought_next _ _ c.args.g c.without_first-rest.result (settled_looked c.args.marks.now c.args.g) c.requires.0
    c.without_first-rest.ensures l.part l.invariant c.loop-part-test.true
    (sym c.both_two.ensures ∙ c.if-both_two.false) c.next_part-part.result c.next_part-part.ensures

pub returns : goal.returns
unfolding split_of
returns c =
    let w = c.without_first-rest in
    let l = c.loop-part in
    sought_all _ _ c.args.g w.result (settled_looked c.args.marks.now c.args.g) c.requires.0 w.ensures l.part l.invariant
    c.loop-part-test.false

pub both_two-requires : goal.both_two-requires
both_two-requires c =
    let l = c.loop-part in
    let pre = c.requires in
    let at = part_looked_at _ _ c.args.g c.without_first-rest.result (settled_looked c.args.marks.now c.args.g) pre.0 c.without_first-rest.ensures l.part
    l.invariant c.loop-part-test.true most_members pre.1 in
    (at.0, at.1, pre.2)
