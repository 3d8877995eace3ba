-- `representatives::witnesses::agreeing_in_row` meets its contract: one more row. Assumes nothing.
use Rattle.laws.specs.Prelude.{arith, get_or-take, length-take-le}
use Rattle.representatives.specs.Witnesses.{row_next}
use Rattle.representatives.proofs.witnesses.agreeing_in_row.Goals as goal

pub loop-q-preserved : goal.loop-q-preserved
loop-q-preserved c =
    let a = c.args in
    let long = length-take-le a.count a.firsts.now c.requires.1 in
    row_next c.loop-q.invariant (rw (get_or-take a.count a.firsts.now c.loop-q.q-index 0 (omega arith)) at c.agreeing_inputs-rest.ensures)
