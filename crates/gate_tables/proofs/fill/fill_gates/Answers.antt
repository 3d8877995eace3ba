-- `gate_tables::fill::fill_gates` meets its contract. The loop's invariant: the first `k` links are filled, and the rows of their wires are written.
-- Assumes nothing.
use Rattle.std.specs.Prelude.{◌+◌, ◌*◌, ◌≡◌}
use Rattle.laws.specs.Prelude.{ℕ, ◌∙◌, refl, subst⁻¹, ap₂, mul-le-mul_right, arith, length, rules}
use Rattle.rules.specs.Calls.Answers.{ink_in}
use Rattle.nets.specs.Room.{most_wires, gate_room}
use Rattle.wirings.specs.Links.{links_in}
use Rattle.gate_tables.specs.Store.{rows_start}
use Rattle.gate_tables.specs.Filled.{Going, going_start, filled_end}
use Rattle.gate_tables.proofs.FillTurn.{pass_room, room_left, room_right, ready, groups_small, stopped, firsts_fit, going_on, rows_on}
use Rattle.gate_tables.proofs.fill.fill_gates.Goals as goal

pub loop-k-init : goal.loop-k-init
loop-k-init c =
    let wires = c.input_wires in
    let a = c.args in
    let f = ink_in a.cells.now in
    let long : length wires.new.wires ≡ most_wires * 11 = search rules in
    record {
      work = refl;
      long = long;
      going = subst⁻¹ (Going a.m a.n f (links_in a.wiring) 0) c.no_gates-net.ensures (going_start a.m a.n f (links_in a.wiring));
      rows = rows_start a.m a.n f (links_in a.wiring) wires.new.wires (wires.ensures f);
    }

pub gate_classes-classes-requires : goal.gate_classes-classes-requires
gate_classes-classes-requires c =
    let a = c.args in
    let sized = c.requires.0 in
    let l = c.loop-k in
    let k< = c.loop-k-test.true in
    let long = l.invariant.long in
    let rows = l.invariant.rows in (
      room_left a.m a.n a.cells.now sized a.wiring c.requires.1 c.requires.3 l.k k< l.wires long rows,
      room_right a.m a.n a.cells.now sized a.wiring c.requires.1 c.requires.3 l.k k< l.wires long rows,
      ready a.m a.n a.cells.now sized a.wiring c.requires.1 c.requires.3 l.k k< l.wires long rows,
      pass_room a.m a.n l.ys sized.levels (omega (arith, c.requires.2, l.invariant.work)),
    )

pub returns-then-m-classes : goal.returns-then-m-classes
returns-then-m-classes c =
    let a = c.args in
    let l = c.loop-k in
    let pass = c.gate_classes-classes in
    stopped a.m a.n a.cells.now c.requires.0 a.wiring c.requires.1 c.requires.3 l.k c.loop-k-test.true l.wires l.invariant.long l.invariant.rows
    pass.result pass.new.firsts pass.new.table pass.ensures l.net l.invariant.going c.if-m-classes.true

-- ---- the gate is added
pub join-net-requires : goal.join-net-requires
join-net-requires c =
    let a = c.args in
    let sized = c.requires.0 in
    let l = c.loop-k in
    let count = l.invariant.going.count in
    let long : length c.gate_classes-classes.new.table ≡ 81 = search rules in (
      omega (arith, mul-le-mul_right a.m sized.levels, sized.levels),
      omega (arith, count, sized.inputs, c.requires.1, c.loop-k-test.true),
      gate_room a.m a.n sized.fits l.net.gates (omega (arith, count, c.requires.1, c.loop-k-test.true)),
    )

pub group_of-requires : goal.group_of-requires
group_of-requires c =
    let a = c.args in
    let l = c.loop-k in
    omega (
      arith,
      room_left a.m a.n a.cells.now c.requires.0 a.wiring c.requires.1 c.requires.3 l.k c.loop-k-test.true l.wires
          l.invariant.long l.invariant.rows,
      room_right a.m a.n a.cells.now c.requires.0 a.wiring c.requires.1 c.requires.3 l.k c.loop-k-test.true l.wires
          l.invariant.long l.invariant.rows,
    )

pub group_of-requires-in-loop-k : goal.group_of-requires-in-loop-k
group_of-requires-in-loop-k c =
    let a = c.args in
    let l = c.loop-k in
    omega (
      arith,
      room_left a.m a.n a.cells.now c.requires.0 a.wiring c.requires.1 c.requires.3 l.k c.loop-k-test.true l.wires
          l.invariant.long l.invariant.rows,
      room_right a.m a.n a.cells.now c.requires.0 a.wiring c.requires.1 c.requires.3 l.k c.loop-k-test.true l.wires
          l.invariant.long l.invariant.rows,
    )

pub overflow_add-group : goal.overflow_add-group
overflow_add-group c =
    let a = c.args in
    let l = c.loop-k in
    omega (
      arith,
      c.group_of.ensures,
      c.group_of-in-loop-k.ensures,
      groups_small a.m a.n a.cells.now c.requires.0 a.wiring c.requires.1 c.requires.3 l.k c.loop-k-test.true l.wires
          l.invariant.long l.invariant.rows,
    )

pub put_row-requires : goal.put_row-requires
put_row-requires c =
    let a = c.args in
    let sized = c.requires.0 in
    let l = c.loop-k in
    let pass = c.gate_classes-classes in
    let low = c.if-m-classes.false in (
      omega (arith, low, sized.levels),
      firsts_fit a.m a.n a.cells.now sized a.wiring c.requires.1 c.requires.3 l.k c.loop-k-test.true l.wires l.invariant.long l.invariant.rows
          pass.result pass.new.firsts pass.new.table pass.ensures l.net l.invariant.going low,
      omega (arith, sized.inputs, c.requires.1, c.loop-k-test.true, l.invariant.long, low, sized.levels),
    )

pub loop-k-preserved : goal.loop-k-preserved
loop-k-preserved c =
    let a = c.args in
    let sized = c.requires.0 in
    let l = c.loop-k in
    let pass = c.gate_classes-classes in
    let low = c.if-m-classes.false in
    record {
      work = pass.auto.ys ∙ l.invariant.work;
      long = c.put_row.ensures.long ∙ l.invariant.long;
      going = going_on a.m a.n a.cells.now sized a.wiring c.requires.1 c.requires.3 l.k c.loop-k-test.true l.wires l.invariant.long l.invariant.rows
          pass.result pass.new.firsts pass.new.table pass.ensures l.net l.invariant.going low c.join-net.result c.join-net.ensures;
      rows = rows_on a.m a.n a.cells.now sized a.wiring c.requires.1 c.requires.3 l.k c.loop-k-test.true l.wires l.invariant.long l.invariant.rows
          pass.result pass.new.firsts pass.new.table pass.ensures l.net l.invariant.going low _
          (ap₂ (λ (x y : ℕ). x + y) c.group_of.ensures c.group_of-in-loop-k.ensures) c.put_row.new.wires c.put_row.ensures;
    }

pub returns : goal.returns
returns c =
    let a = c.args in
    let l = c.loop-k in
    filled_end a.m a.n (ink_in a.cells.now) a.wiring l.k l.net l.invariant.going (omega arith)
