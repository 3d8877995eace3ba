-- `evaluation::lists::join::join` meets its contract. The loop's invariant: the entries for the first i of the outer list are written. Assumes nothing.
use Rattle.std.specs.Prelude.{◌≡◌}
use Rattle.laws.specs.Prelude.{zero-mul, arith}
use Rattle.evaluation.specs.Lists.Pairs.{joined_none, join_row_room, joined_more, pair_rows_more}
use Rattle.evaluation.proofs.lists.join.join.Goals as goal

pub loop-i-preserved : goal.loop-i-preserved
loop-i-preserved c =
    let l = c.loop-i in (
      omega (arith, l.invariant.0, pair_rows_more l.i c.args.order.inner.count),
      joined_more _ _ _ _ _ c.requires l.i l.at c.loop-i-test.true l.invariant.0 l.lists l.invariant.1 _
          c.join_row.ensures,
    )

pub returns : goal.returns
returns c =
    let end : c.loop-i.i ≡ c.args.order.outer.count = omega (arith, c.loop-i-test.false) in
    rw end at c.loop-i.invariant.1

pub loop-i-init : goal.loop-i-init
loop-i-init c = (omega (arith, zero-mul c.args.order.inner.count), joined_none _ _ _ _ _)

pub overflow_add-at : goal.overflow_add-at
overflow_add-at c =
    let l = c.loop-i in
    let room = join_row_room _ _ _ _ _ c.requires l.i l.at c.loop-i-test.true l.invariant.0 l.lists l.invariant.1 in
    omega (arith, room, l.invariant.1.same)
