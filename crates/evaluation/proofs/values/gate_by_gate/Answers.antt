-- `evaluation::values::gate_by_gate` meets its contract. The loop's invariant: the first k gates have their values. Assumes nothing.
use Rattle.laws.specs.Prelude.{arith, rules}
use Rattle.nets.specs.Sound.{gates_pos, wires_room}
use Rattle.evaluation.specs.Values.{gates_none, gate_ready, gates_more, gates_done}
use Rattle.evaluation.proofs.Gates.{few_wires, square_small}
use Rattle.evaluation.proofs.values.gate_by_gate.Goals as goal

pub loop-k-preserved : goal.loop-k-preserved
loop-k-preserved c =
    let h = c.loop-k in
    gates_more _ _ _ _ _ c.requires h.k h.at h.to h.wires h.invariant c.loop-k-test.true _ c.gate_values.ensures

pub returns : goal.returns
returns c =
    let h = c.loop-k in
    gates_done _ _ _ _ _ c.requires h.at h.to h.wires h.k h.invariant c.loop-k-test.false

pub overflow_mul-size : goal.overflow_mul-size
overflow_mul-size c = omega (arith, square_small c.args.net c.requires.sound)

pub loop-k-init : goal.loop-k-init
loop-k-init c = gates_none _ _ _ _ _ c.requires (search rules)

pub gate_values-requires : goal.gate_values-requires
gate_values-requires c =
    let h = c.loop-k in
    gate_ready _ _ _ _ _ c.requires h.k h.at h.to h.wires h.invariant c.loop-k-test.true

pub overflow_add-to : goal.overflow_add-to
overflow_add-to c =
    let h = c.loop-k in
    let ready = gate_ready _ _ _ _ _ c.requires h.k h.at h.to h.wires h.invariant c.loop-k-test.true in
    omega (arith, ready.room, h.invariant.same)

pub overflow_add-result : goal.overflow_add-result
overflow_add-result c = omega (arith, wires_room c.args.net c.requires.sound, gates_pos c.args.net c.requires.sound)

pub offset_bounds-at-net-2 : goal.offset_bounds-at-net-2
offset_bounds-at-net-2 c = omega (arith, wires_room c.args.net c.requires.sound, gates_pos c.args.net c.requires.sound)

pub bounds-at-net-2 : goal.bounds-at-net-2
bounds-at-net-2 c = omega (arith, wires_room c.args.net c.requires.sound, gates_pos c.args.net c.requires.sound)

pub overflow_add-at : goal.overflow_add-at
overflow_add-at c = omega (arith, few_wires c.args.net c.requires.sound)

pub offset_bounds-at-net : goal.offset_bounds-at-net
offset_bounds-at-net c = omega (arith, few_wires c.args.net c.requires.sound)

pub bounds-at-net : goal.bounds-at-net
bounds-at-net c = omega (arith, few_wires c.args.net c.requires.sound)
