-- `jobs::next::next_under` meets its contract: all groups are passed, or the next one is marked from the front of the cells and of the marks.
-- Assumes nothing.
use Rattle.laws.specs.Prelude.{arith}
use Rattle.jobs.specs.Forms.{front_size, front_groups}
use Rattle.jobs.specs.Stepping.{next_done, next_marked}
use Rattle.jobs.proofs.next.next_under.Goals as goal

pub power-end-requires : goal.power-end-requires
power-end-requires c = (omega arith, omega (arith, (front_size _ _ c.requires.0).inputs_most))

pub returns-then-end-passed : goal.returns-then-end-passed
returns-then-end-passed c =
    next_done _ _ c.requires.0 _ _ _ _ c.power-end.ensures c.if-end-passed.true

pub power-count-requires : goal.power-count-requires
power-count-requires c =
    let size = front_size _ _ c.requires.0 in
    (size.levels_most, omega (arith, size.inputs_most))

pub slice_bounds-mark_one-end : goal.slice_bounds-mark_one-end
slice_bounds-mark_one-end c = omega (arith, c.power-count.ensures, (front_size _ _ c.requires.0).cells_most, c.requires.1)

pub slice_bounds-mark_one-end-2 : goal.slice_bounds-mark_one-end-2
slice_bounds-mark_one-end-2 c = omega (arith, c.power-end.ensures, front_groups _ _ c.requires.0, c.requires.2)

pub returns : goal.returns
returns c =
    next_marked _ _ c.requires.0 _ _ _ _ c.power-end.ensures (omega (arith, c.if-end-passed.false)) _ c.power-count.ensures _
    c.mark_one.ensures
