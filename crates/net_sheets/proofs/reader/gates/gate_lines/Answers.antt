-- `net_sheets::reader::gates::gate_lines` meets its contract. The loop's invariant: the gates from here are the gates from the start.
-- Assumes nothing.
use Rattle.std.proofs.lemmas.Result.{err_from_is_err_and}
use Rattle.std.specs.Prelude.{◌<◌, ◌-◌}
use Rattle.laws.specs.Prelude.{ℕ, List, mul-le-mul, lt_of_le_of_lt, arith, lit<}
use Rattle.laws.specs.Numbers.Sizes.{sized}
use Rattle.fields.specs.Header.FirstLines.{HeaderHeld}
use Rattle.nets.specs.declared.forms.Header.{Header}
use Rattle.net_sheets.specs.Reader.GateLines.{GateRoom, gate_place, build_start, build_done, built_line, build_room, build_back, build_end}
use Rattle.net_sheets.specs.Reader.GateLines.{build_next}
use Rattle.net_sheets.proofs.reader.gates.gate_lines.Goals as goal

-- a turn's gate has room
room : (s : List ℕ) (h : Header) (gates : ℕ) → HeaderHeld s h → gates < h.inputs - 1 → GateRoom h.inputs gates
room s h gates held below = let size = sized h.levels h.inputs held.fits in gate_place h.inputs gates size.inputs_most below

pub overflow_mul-size : goal.overflow_mul-size
overflow_mul-size c =
    let size = sized _ _ c.requires.fits in
    record { fits = lt_of_le_of_lt (mul-le-mul size.levels_most size.levels_most) (lit< tt) }

pub overflow_sub-gates-end : goal.overflow_sub-gates-end
overflow_sub-gates-end c = let size = sized _ _ c.requires.fits in omega (arith, size.inputs_least)

pub loop-gates-init : goal.loop-gates-init
loop-gates-init c =
    let size = sized _ _ c.requires.fits in
    build_start _ _ _ _ _ _ size.inputs_least c.key_names.ensures c.no_gates-net.ensures

pub overflow_add-header : goal.overflow_add-header
overflow_add-header c = omega (arith, (room _ _ _ c.requires c.loop-gates-test.true).wires)

pub gate_line-requires : goal.gate_line-requires
gate_line-requires c =
    let size = sized _ _ c.requires.fits in
    (size.levels_most, (room _ _ _ c.requires c.loop-gates-test.true).count)

pub returns-in_err-line : goal.returns-in_err-line
returns-in_err-line c =
    let p = err_from_is_err_and c.from_residual.result c.from_residual.ensures.1 in
    rw (p.1, p.2) (build_back _ _ _ _ _ _ _ _ _ c.loop-gates.invariant c.loop-gates-test.true _ _ c.gate_line.ensures _ c.in_err-line.was)

pub copy_digits-requires : goal.copy_digits-requires
copy_digits-requires c =
    let held = (built_line _ _ _ _ _ _ _ _ _ c.loop-gates.invariant c.loop-gates-test.true _ _ c.gate_line.ensures).held _ c.in_ok-line.was in
    let most = build_room _ _ _ _ _ _ _ _ _ c.loop-gates.invariant c.loop-gates-test.true _ _ c.gate_line.ensures c.requires in
    (held.digits.within, omega (arith, most), c.loop-gates.invariant.form.digits, held.digits.digits)

pub loop-gates-preserved : goal.loop-gates-preserved
loop-gates-preserved c =
    build_next _ _ _ _ _ _ _ _ _ c.loop-gates.invariant c.loop-gates-test.true _ _ c.gate_line.ensures c.requires _
    c.in_ok-line.was _ c.copy_digits.ensures c.if-s-next.false _ _ c.key_number.ensures

pub returns-then-s-next : goal.returns-then-s-next
returns-then-s-next c =
    build_end _ _ _ _ _ _ _ _ _ c.loop-gates.invariant c.loop-gates-test.true _ _ c.gate_line.ensures c.requires _
    c.in_ok-line.was _ c.copy_digits.ensures c.if-s-next.true

pub returns-after-loop-gates : goal.returns-after-loop-gates
returns-after-loop-gates c =
    let size = sized _ _ c.requires.fits in
    build_done _ _ _ _ _ _ _ _ _ c.loop-gates.invariant size.inputs_least c.loop-gates-test.false

pub key_number-requires : goal.key_number-requires
key_number-requires c = let most = room _ _ _ c.requires c.loop-gates-test.true in (most.wires, most.number)

pub bounds-net-gates : goal.bounds-net-gates
bounds-net-gates c = (room _ _ _ c.requires c.loop-gates-test.true).place

pub bounds-net-gates-in-loop-gates : goal.bounds-net-gates-in-loop-gates
bounds-net-gates-in-loop-gates c = (room _ _ _ c.requires c.loop-gates-test.true).place

pub overflow_mul-gates : goal.overflow_mul-gates
overflow_mul-gates c =
    omega (arith, build_room _ _ _ _ _ _ _ _ _ c.loop-gates.invariant c.loop-gates-test.true _ _ c.gate_line.ensures c.requires)

pub overflow_cast-net : goal.overflow_cast-net
overflow_cast-net c =
    let held = (built_line _ _ _ _ _ _ _ _ _ c.loop-gates.invariant c.loop-gates-test.true _ _ c.gate_line.ensures).held _ c.in_ok-line.was in
    omega (arith, held.left)

pub overflow_cast-net-in-loop-gates : goal.overflow_cast-net-in-loop-gates
overflow_cast-net-in-loop-gates c =
    let held = (built_line _ _ _ _ _ _ _ _ _ c.loop-gates.invariant c.loop-gates-test.true _ _ c.gate_line.ensures).held _ c.in_ok-line.was in
    omega (arith, held.right)
