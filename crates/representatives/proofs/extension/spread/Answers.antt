-- `representatives::extension::spread` meets its contract. Loop invariant: the assignments so far cover the group without the remaining members.
-- Assumes nothing.
use Rattle.laws.specs.Prelude.{arith, pow_pos}
use Rattle.rules.specs.Nets.Wirings.{first_input}
use Rattle.representatives.proofs.Spreading.{spreads_none, spreads_all, spreads_group, spreads_input, spreads_room, spreads_small, spreads_next}
use Rattle.representatives.proofs.extension.spread.Goals as goal

pub loop-rest-init : goal.loop-rest-init
loop-rest-init c = spreads_none c.requires

pub offset_bounds-weights-i : goal.offset_bounds-weights-i
offset_bounds-weights-i c =
    let inv = c.loop-rest.invariant in
    omega (arith, spreads_input c.requires inv c.loop-rest-test.true (c.first_of-i.ensures c.args.n (spreads_group c.requires inv)))

pub bounds-weights-i : goal.bounds-weights-i
bounds-weights-i c =
    let inv = c.loop-rest.invariant in
    spreads_input c.requires inv c.loop-rest-test.true (c.first_of-i.ensures c.args.n (spreads_group c.requires inv))

pub widen-count-requires : goal.widen-count-requires
widen-count-requires c =
    let pre = c.requires in
    let inv = c.loop-rest.invariant in
    let more = c.loop-rest-test.true in
    let is_first = c.first_of-i.ensures c.args.n (spreads_group pre inv) in
    (inv.some, pre.levels, spreads_room pre inv more is_first, spreads_small pre inv more is_first)

pub loop-rest-smaller : goal.loop-rest-smaller
loop-rest-smaller c =
    let l = c.loop-rest in
    omega (arith, c.without_first-rest.ensures c.args.n (spreads_group c.requires l.invariant), pow_pos (first_input c.args.n l.rest))

pub loop-rest-preserved : goal.loop-rest-preserved
loop-rest-preserved c =
    let inv = c.loop-rest.invariant in
    let group = spreads_group c.requires inv in
    spreads_next c.requires inv c.loop-rest-test.true (c.first_of-i.ensures c.args.n group) c.widen-count.ensures.0 c.widen-count.ensures.1
    c.widen-count.auto.out (c.without_first-rest.ensures c.args.n group)

pub returns : goal.returns
returns c = spreads_all c.requires c.loop-rest.invariant c.loop-rest-test.false
