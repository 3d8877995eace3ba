-- `representatives::source::source` meets its contract. Loop invariant: the members still to be tried are members of g, and so is the best so far.
-- Assumes nothing.
use Rattle.std.specs.Prelude.{◌<◌, ◌-◌}
use Rattle.laws.specs.Prelude.{arith}
use Rattle.representatives.specs.Known.{places_before}
use Rattle.representatives.proofs.Taking.{takes_none, takes_one, takes_less, takes_next}
use Rattle.representatives.proofs.source.source.Goals as goal

pub overflow_sub-best : goal.overflow_sub-best
overflow_sub-best c = omega (arith, c.without_first.ensures 64 (omega arith))

pub loop-rest-init : goal.loop-rest-init
loop-rest-init c = takes_none c.args.g c.requires.1 c.without_first.ensures

pub passes_on-requires : goal.passes_on-requires
passes_on-requires c =
    let g = c.args.g in
    let bit = c.loop-rest.rest - c.without_first-without.result in
    let below : g - bit < g = omega (arith, takes_less c.loop-rest.invariant c.loop-rest-test.true c.without_first-without.ensures (omega arith)) in
    (omega (arith, c.requires.2), omega (arith, places_before c.args.m (g - bit) g below, c.requires.3))

pub returns-then-passes_on : goal.returns-then-passes_on
returns-then-passes_on c = takes_one c.loop-rest.invariant c.loop-rest-test.true c.without_first-without.ensures

pub bounds-counts-g : goal.bounds-counts-g
bounds-counts-g c =
    let l = c.loop-rest in omega (arith, takes_less l.invariant c.loop-rest-test.true c.without_first-without.ensures (omega arith), l.invariant.low)

pub loop-rest-preserved-then-counts-g-ne0 : goal.loop-rest-preserved-then-counts-g-ne0
loop-rest-preserved-then-counts-g-ne0 c =
    let l = c.loop-rest in
    let off = c.without_first-without.ensures in
    takes_next l.invariant c.loop-rest-test.true off (omega arith) _ (takes_one l.invariant c.loop-rest-test.true off)

pub loop-rest-preserved : goal.loop-rest-preserved
loop-rest-preserved c =
    let l = c.loop-rest in
    takes_next l.invariant c.loop-rest-test.true c.without_first-without.ensures (omega arith) _ l.invariant.is

pub overflow_sub-bit : goal.overflow_sub-bit
overflow_sub-bit c = (takes_less c.loop-rest.invariant c.loop-rest-test.true c.without_first-without.ensures (omega arith)).1

pub loop-rest-smaller-then-counts-g-ne0 : goal.loop-rest-smaller-then-counts-g-ne0
loop-rest-smaller-then-counts-g-ne0 c = (takes_less c.loop-rest.invariant c.loop-rest-test.true c.without_first-without.ensures (omega arith)).2

pub loop-rest-smaller : goal.loop-rest-smaller
loop-rest-smaller c = (takes_less c.loop-rest.invariant c.loop-rest-test.true c.without_first-without.ensures (omega arith)).2
