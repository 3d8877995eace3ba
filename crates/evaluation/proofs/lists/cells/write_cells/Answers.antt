-- `evaluation::lists::cells::write_cells` meets its contract. Assumes nothing.
use Rattle.laws.specs.Prelude.{arith}
use Rattle.nets.specs.Sound.{sound_size}
use Rattle.evaluation.specs.Lists.Cells.{last_small, whole_cells, whole_done}
use Rattle.evaluation.proofs.lists.cells.write_cells.Goals as goal

pub paint-requires : goal.paint-requires
paint-requires c =
    let pre = c.requires in
    whole_cells _ pre.0 _ _ pre.1 (omega (arith, c.if-last-power.false, c.power.ensures)) _ pre.2

pub returns : goal.returns
returns c =
    let pre = c.requires in
    rw c.power-2.ensures
    (whole_done _ pre.0 _ _ pre.1 (omega (arith, c.if-last-power.false, c.power.ensures)) _ pre.2 _ c.paint.ensures)

pub overflow_add-last : goal.overflow_add-last
overflow_add-last c = let pre = c.requires in omega (arith, last_small _ pre.0 _ _ pre.1)

pub overflow_add-last-2 : goal.overflow_add-last-2
overflow_add-last-2 c = let pre = c.requires in omega (arith, last_small _ pre.0 _ _ pre.1)

pub power-requires : goal.power-requires
power-requires c = (omega arith, omega (arith, (sound_size _ c.requires.0).inputs_most))

pub overflow_sub-net : goal.overflow_sub-net
overflow_sub-net c = let pre = c.requires in omega (arith, last_small _ pre.0 _ _ pre.1)

pub overflow_mul-net : goal.overflow_mul-net
overflow_mul-net c = let pre = c.requires in omega (arith, last_small _ pre.0 _ _ pre.1)

pub overflow_mul-net-2 : goal.overflow_mul-net-2
overflow_mul-net-2 c = let pre = c.requires in omega (arith, last_small _ pre.0 _ _ pre.1)

pub power-requires-2 : goal.power-requires-2
power-requires-2 c = let size = sound_size _ c.requires.0 in
    (size.levels_most, omega (arith, size.inputs_most))
