-- `nets::layers::layers` meets its contract. The loop's invariant: the layers of the first k gates are known. Assumes nothing.
use Rattle.laws.specs.Prelude.{refl, arith}
use Rattle.nets.specs.References.{gate_step}
use Rattle.nets.proofs.Depths.{depths_none, depth_small, depths_more, depths_all}
use Rattle.nets.proofs.layers.layers.Goals as goal

pub loop-k-init : goal.loop-k-init
loop-k-init c = depths_none c.args.net c.requires _ refl

pub bounds-net-k : goal.bounds-net-k
bounds-net-k c = omega (arith, gate_step c.args.net c.requires c.loop-k.k c.loop-k-test.true)

pub overflow_add-depths : goal.overflow_add-depths
overflow_add-depths c =
    let l = c.loop-k in
    let step = gate_step c.args.net c.requires l.k c.loop-k-test.true in
    let small = depth_small c.args.net c.requires l.k l.depths l.invariant in
    omega (arith, c.max.ensures, small _ step.0, small _ step.1, step)

pub loop-k-preserved : goal.loop-k-preserved
loop-k-preserved c =
    let l = c.loop-k in
    depths_more c.args.net c.requires l.k l.depths l.invariant c.loop-k-test.true c.max.result c.max.ensures

pub returns : goal.returns
returns c =
    let l = c.loop-k in
    depths_all c.args.net c.requires l.k l.depths l.invariant (omega arith)
