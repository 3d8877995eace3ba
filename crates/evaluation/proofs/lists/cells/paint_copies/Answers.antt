-- `evaluation::lists::cells::paint_copies` meets its contract. The loop's invariant: the table for the first h offsets is written. Assumes nothing.
use Rattle.std.specs.Prelude.{◌<◌, ◌≡◌}
use Rattle.laws.specs.Prelude.{ℕ, List, ◌∙◌, arith, take, take-take, le_refl, length-take-le}
use Rattle.radix.specs.Fronts.{Front, fits_in}
use Rattle.nets.specs.Sound.{sound_size, net_levels_pos}
use Rattle.evaluation.specs.Lists.Painted.{painted_more}
use Rattle.evaluation.specs.Lists.Cells.{used, last_small, copy_cells, cells_done}
use Rattle.evaluation.proofs.lists.cells.paint_copies.Goals as goal

pub other_offsets-count-requires : goal.other_offsets-count-requires
other_offsets-count-requires c =
    let ready = c.requires in
    let size = sound_size _ ready.0 in
    (net_levels_pos _ ready.0, omega (arith, size.inputs_most), omega (arith, size.cells_most), size.cells_most, (used _ ready.0 _ _ ready.1).0)

-- the offsets that the loop reads are all of them, and nothing else
read : {xs : List ℕ} {r : ℕ} {out : List ℕ} → Front xs r out → Front xs r (take r out)
read {xs} {r} {out} front = record { is = take-take r r out (le_refl r) ∙ front.is; count = front.count }

pub paint-requires : goal.paint-requires
paint-requires c =
    let l = c.loop-offset in
    let pre = c.requires in
    let front = c.other_offsets-count.ensures in
    let turn : l.offset-index < c.other_offsets-count.result = omega (arith, length-take-le _ _ (fits_in front), c.loop-offset-test.true) in
    copy_cells _ pre.0 _ _ pre.1 c.args.cells.now pre.2 _ _ (read front) l.offset-index turn l.cells l.invariant.same

pub loop-offset-preserved : goal.loop-offset-preserved
loop-offset-preserved c =
    let l = c.loop-offset in
    painted_more _ _ l.offset-index l.cells _ l.invariant c.paint.ensures

pub returns : goal.returns
returns c =
    let pre = c.requires in
    let front = c.other_offsets-count.ensures in
    let end : c.loop-offset.offset-index ≡ c.other_offsets-count.result =
    omega (arith, length-take-le _ _ (fits_in front), c.loop-offset-test.false) in
    rw c.power.ensures
    (cells_done _ pre.0 _ _ pre.1 _ pre.2 _ _ (read front) c.loop-offset.cells (rw end at c.loop-offset.invariant))

pub overflow_sub-from : goal.overflow_sub-from
overflow_sub-from c = let pre = c.requires in omega (arith, last_small _ pre.0 _ _ pre.1)

pub overflow_mul-from : goal.overflow_mul-from
overflow_mul-from c = let pre = c.requires in omega (arith, last_small _ pre.0 _ _ pre.1)

pub overflow_mul-from-2 : goal.overflow_mul-from-2
overflow_mul-from-2 c = let pre = c.requires in omega (arith, last_small _ pre.0 _ _ pre.1)

pub overflow_add-group : goal.overflow_add-group
overflow_add-group c = let pre = c.requires in omega (arith, last_small _ pre.0 _ _ pre.1)

pub power-requires : goal.power-requires
power-requires c = let size = sound_size _ c.requires.0 in (size.levels_most, omega (arith, size.inputs_most))
