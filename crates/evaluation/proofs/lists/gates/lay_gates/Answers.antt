-- `evaluation::lists::gates::lay_gates` meets its contract. The loop's invariant: the inputs and the first k gates have their lists. Assumes nothing.
use Rattle.std.specs.Prelude.{◌-◌, ◌≡◌}
use Rattle.laws.specs.Prelude.{sym, ap, add-zero, mul-le-mul, arith}
use Rattle.nets.specs.Sound.{sound_size, gates_pos}
use Rattle.evaluation.specs.declared.lists.order.Span.{Span}
use Rattle.evaluation.specs.Lists.Wires.{input_start}
use Rattle.evaluation.specs.Lists.Laid.{net_listed, gate_fits, join_ready, gate_lists_more}
use Rattle.evaluation.proofs.Gates.{few_wires, square_small}
use Rattle.evaluation.proofs.lists.gates.lay_gates.Goals as goal

-- no span
abbrev none : Span
none = record { start = 0; count = 0; group = 0 }

pub loop-k-init : goal.loop-k-init
loop-k-init c = let pre = c.requires in (rw add-zero (sym (input_start _ pre.0 _ (omega arith))), rw add-zero pre.1)

pub join-requires : goal.join-requires
join-requires c =
    let h = c.loop-k in
    join_ready c.args.net c.requires.0 h.k h.spans h.lists h.invariant.1 (omega arith) h.to h.invariant.0 none _
    c.shorter_outside-order.ensures (omega arith)

pub overflow_add-to : goal.overflow_add-to
overflow_add-to c =
    let h = c.loop-k in
    let fits = gate_fits c.args.net c.requires.0 h.k h.spans h.lists h.invariant.1 (omega arith) h.to h.invariant.0 none (omega arith) in
    omega (arith, fits, ap (λ (s : Span). s.count) c.joined_span-gate.ensures)

pub loop-k-preserved : goal.loop-k-preserved
loop-k-preserved c =
    let h = c.loop-k in
    gate_lists_more c.args.net c.requires.0 h.k h.spans h.lists h.invariant.1 (omega arith) h.to h.invariant.0 none _
    c.shorter_outside-order.ensures _ c.joined_span-gate.ensures _ c.join.ensures

-- the last gate
pub returns : goal.returns
returns c =
    let h = c.loop-k in
    let end : h.k ≡ c.args.net.gates - 1 = omega (arith, c.loop-k-test.false) in
    net_listed _ c.requires.0 h.k h.spans h.lists h.invariant.1 (omega (arith, gates_pos c.args.net c.requires.0)) h.to h.invariant.0 none _
    (rw end c.shorter_outside.ensures) (omega arith)

pub overflow_mul-size : goal.overflow_mul-size
overflow_mul-size c = omega (arith, square_small c.args.net c.requires.0)

pub overflow_mul-to : goal.overflow_mul-to
overflow_mul-to c = let size = sound_size _ c.requires.0 in omega (arith, mul-le-mul size.inputs_most size.levels_most)

pub joined_span-gate-requires : goal.joined_span-gate-requires
joined_span-gate-requires c =
    let h = c.loop-k in
    omega (arith, gate_fits c.args.net c.requires.0 h.k h.spans h.lists h.invariant.1 (omega arith) h.to h.invariant.0 none (omega arith))

pub overflow_add-spans : goal.overflow_add-spans
overflow_add-spans c = omega (arith, few_wires c.args.net c.requires.0)

pub offset_bounds-spans-net : goal.offset_bounds-spans-net
offset_bounds-spans-net c = omega (arith, few_wires c.args.net c.requires.0)

pub bounds-spans-net : goal.bounds-spans-net
bounds-spans-net c = omega (arith, few_wires c.args.net c.requires.0)
