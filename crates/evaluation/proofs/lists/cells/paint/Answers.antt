-- `evaluation::lists::cells::paint` meets its contract. The loop's invariant: the cells for the outer entries so far are written. Assumes nothing.
use Rattle.std.specs.Prelude.{◌<◌, ◌≡◌}
use Rattle.laws.specs.Prelude.{arith}
use Rattle.evaluation.specs.Lists.Slices.{slice_length, slice_turn, slice_at}
use Rattle.evaluation.specs.Lists.Painted.{painted_more}
use Rattle.evaluation.proofs.lists.cells.paint.Goals as goal

pub paint_row-requires : goal.paint_row-requires
paint_row-requires c =
    let a = c.args in
    let l = c.loop-entry in
    let turn : l.entry-index < a.order.outer.count = slice_turn a.lists.now a.order.outer.start a.order.outer.count l.entry-index c.loop-entry-test.true in
    rw (slice_at a.lists.now a.order.outer.start a.order.outer.count l.entry-index turn, l.invariant.same) (c.requires.rows l.entry-index turn)

pub loop-entry-preserved : goal.loop-entry-preserved
loop-entry-preserved c =
    let a = c.args in
    let l = c.loop-entry in
    let turn : l.entry-index < a.order.outer.count = slice_turn a.lists.now a.order.outer.start a.order.outer.count l.entry-index c.loop-entry-test.true in
    painted_more _ _ l.entry-index l.cells _ l.invariant
    (rw (slice_at a.lists.now a.order.outer.start a.order.outer.count l.entry-index turn) at c.paint_row.ensures)

pub returns : goal.returns
returns c =
    let a = c.args in
    let l = c.loop-entry in
    let end : l.entry-index ≡ a.order.outer.count =
    omega (arith, slice_length a.lists.now a.order.outer.start a.order.outer.count c.requires.outer_there, c.loop-entry-test.false) in
    rw end at l.invariant
