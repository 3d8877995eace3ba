-- `arrivals::settling::settling` meets its contract. The loop's invariant: the inputs and the first k gates have their ends.
-- Assumes nothing.
use Rattle.std.specs.Prelude.{◌≤◌, ◌≡◌}
use Rattle.laws.specs.Prelude.{refl, arith}
use Rattle.rules.specs.Limits.{most_delay}
use Rattle.nets.specs.References.{gate_step}
use Rattle.nets.specs.Sound.{gates_pos, sound_size, wires_room}
use Rattle.arrivals.specs.Wires.{wired_none, wired_more, wired_all}
use Rattle.arrivals.proofs.settling.settling.Goals as goal

pub input_ends-ends-requires : goal.input_ends-ends-requires
input_ends-ends-requires c = ((sound_size c.args.net c.requires.0).inputs_most, c.requires.1)

pub loop-k-init : goal.loop-k-init
loop-k-init c = (λ times held inputs. wired_none _ times _ _ inputs, c.microseconds-step.ensures)

pub loop-k-preserved : goal.loop-k-preserved
loop-k-preserved c =
    let byte : c.args.delay ≤ most_delay = omega (arith, c.ranges.delay.fits) in
    let inv = c.loop-k.invariant in (
      λ times held inputs.
          wired_more c.args.net c.requires.0 _ byte times held c.loop-k.k _ (inv.0 times held inputs) c.loop-k-test.true
          _ _ _ c.join.result _ _ refl refl inv.1 c.join.ensures,
      inv.1,
    )

pub returns : goal.returns
returns c =
    let byte : c.args.delay ≤ most_delay = omega (arith, c.ranges.delay.fits) in
    let wired = c.loop-k.invariant.0 c.args.times c.requires.1 c.input_ends-ends.ensures in
    let all : c.loop-k.k ≡ c.args.net.gates = omega (arith, c.loop-k.auto, c.loop-k-test.false) in
    wired_all c.args.net c.requires.0 _ byte c.args.times c.requires.1 c.loop-k.k _ wired all _

pub bounds-net-k : goal.bounds-net-k
bounds-net-k c = omega (arith, gate_step _ c.requires.0 _ c.loop-k-test.true)

pub bounds-ends-net : goal.bounds-ends-net
bounds-ends-net c = omega (arith, gate_step _ c.requires.0 _ c.loop-k-test.true)

pub bounds-net-k-in-loop-k : goal.bounds-net-k-in-loop-k
bounds-net-k-in-loop-k c = omega (arith, gate_step _ c.requires.0 _ c.loop-k-test.true)

pub bounds-ends-net-in-loop-k : goal.bounds-ends-net-in-loop-k
bounds-ends-net-in-loop-k c = omega (arith, gate_step _ c.requires.0 _ c.loop-k-test.true)

pub overflow_add-ends : goal.overflow_add-ends
overflow_add-ends c = omega (arith, wires_room _ c.requires.0, c.loop-k-test.true)

pub offset_bounds-ends-net-in-loop-k-2 : goal.offset_bounds-ends-net-in-loop-k-2
offset_bounds-ends-net-in-loop-k-2 c = omega (arith, wires_room _ c.requires.0, c.loop-k-test.true)

pub bounds-ends-net-in-loop-k-2 : goal.bounds-ends-net-in-loop-k-2
bounds-ends-net-in-loop-k-2 c = omega (arith, wires_room _ c.requires.0, c.loop-k-test.true)

pub overflow_add-result : goal.overflow_add-result
overflow_add-result c = omega (arith, wires_room _ c.requires.0)

pub offset_bounds-ends-net-2 : goal.offset_bounds-ends-net-2
offset_bounds-ends-net-2 c = omega (arith, wires_room _ c.requires.0)

pub bounds-ends-net-2 : goal.bounds-ends-net-2
bounds-ends-net-2 c = omega (arith, wires_room _ c.requires.0, gates_pos _ c.requires.0)
