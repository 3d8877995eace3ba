-- `marks::marking::mark_into` meets its contract: refusal 14, or the stored marks and the answer. Assumes nothing.
use Rattle.laws.specs.Prelude.{arith, pow_mono, lit<}
use Rattle.laws.specs.Numbers.Sizes.{sized}
use Rattle.marks.specs.Marked.{marks_short, marks_written}
use Rattle.marks.proofs.marking.mark_into.Goals as goal
use Rattle.marks.proofs.marking.mark_into.Goals.{then-n-le-FEW_INPUTS, else-n-le-FEW_INPUTS}

pub marks_length-need-requires : goal.marks_length-need-requires
marks_length-need-requires c = omega (arith, (sized c.args.m c.args.n c.requires.size).inputs_most)

pub returns-then-buffer-need : goal.returns-then-buffer-need
returns-then-buffer-need c = marks_short _ _ _ _ c.marks_length-need.result c.marks_length-need.ensures c.if-buffer-need.true

pub store_from-mark-requires : goal.store_from-mark-requires
store_from-mark-requires c = (c.requires, omega arith, pow_mono c.if-n-le-FEW_INPUTS.true, lit< tt)

pub store_from-mark-requires-else-n-le-FEW_INPUTS : goal.store_from-mark-requires-else-n-le-FEW_INPUTS
store_from-mark-requires-else-n-le-FEW_INPUTS c =
    (c.requires, omega arith, pow_mono (sized c.args.m c.args.n c.requires.size).inputs_most, lit< tt)

pub returns : goal.returns
returns c =
    let a = c.args in
    let need = c.marks_length-need in
    elim c.if-n-le-FEW_INPUTS.branch [
      | then-n-le-FEW_INPUTS w ↦ rw (w.mark-is, w.buffer-is)
          (marks_written a.m a.n a.cells.now a.buffer.now need.result need.ensures c.if-buffer-need.false w.store_from-mark.result _ w.store_from-mark.ensures)
      | else-n-le-FEW_INPUTS w ↦ rw (w.mark-is, w.buffer-is)
          (marks_written a.m a.n a.cells.now a.buffer.now need.result need.ensures c.if-buffer-need.false w.store_from-mark-else-n-le-FEW_INPUTS.result _
          w.store_from-mark-else-n-le-FEW_INPUTS.ensures)
    ]
