-- `marks::all_groups::mark_with` meets its contract: first the marks below the whole group, then its own. Assumes nothing.
use Rattle.std.specs.Prelude.{◌-◌, ◌^◌, ◌≡◌}
use Rattle.laws.specs.Prelude.{arith, pow_mono}
use Rattle.laws.specs.Numbers.Sizes.{sized}
use Rattle.rules.specs.Calls.Answers.{ink_in}
use Rattle.marks.specs.Fast.Below.{whole_number, whole_mark}
use Rattle.marks.specs.Marking.{has_room, below_whole}
use Rattle.marks.proofs.all_groups.mark_with.Goals as goal

pub weights-requires : goal.weights-requires
weights-requires c =
    let fit = sized c.args.m c.args.n c.requires.0.size in omega (arith, fit.levels_least, fit.cells_most, fit.inputs_most)

pub mark_below-idle-requires : goal.mark_below-idle-requires
mark_below-idle-requires c =
    let fit = sized c.args.m c.args.n c.requires.0.size in
    let lent = c.requires.2 in (
      record {
        levels = omega (arith, fit.levels_least);
        inputs = omega (arith, fit.inputs_most);
        small = omega (arith, fit.cells_most);
        for_cells = c.requires.0.count;
        weighed = c.weights.ensures;
        all_weighed = omega (arith, fit.inputs_most, c.weights.auto.out);
        for_counts = lent.for_counts;
        for_kept = lent.for_kept;
        for_xs = lent.for_xs;
        for_ys = lent.for_ys;
        for_firsts = omega (arith, fit.levels_most);
      },
      fit.levels_most,
      c.requires.1,
    )

pub power-whole-requires : goal.power-whole-requires
power-whole-requires c = omega (arith, (sized c.args.m c.args.n c.requires.0.size).inputs_most)

pub mark_without-mark-requires : goal.mark_without-mark-requires
mark_without-mark-requires c =
    let a = c.args in
    let fit = sized a.m a.n c.requires.0.size in
    let whole = whole_number a.n c.power-whole.result (omega (arith, fit.inputs_least)) c.power-whole.ensures in
    let room = has_room a.m a.n (ink_in a.cells.now) a.marks.now c.requires.1 (2 ^ a.n - 1) _ c.mark_below-idle.ensures.marked in
    (whole.1, omega (arith, whole.2, pow_mono fit.inputs_most), omega (arith, whole.2, room))

pub returns : goal.returns
returns c =
    let a = c.args in
    let fit = sized a.m a.n c.requires.0.size in
    let whole = whole_number a.n c.power-whole.result (omega (arith, fit.inputs_least)) c.power-whole.ensures in
    let is_whole : c.power-whole.result - 1 ≡ 2 ^ a.n - 1 = omega (arith, c.power-whole.ensures) in (
      below_whole a.m a.n (ink_in a.cells.now) a.marks.now c.requires.1 _ c.mark_below-idle.ensures.marked _ is_whole _
          (whole_mark (omega (arith, fit.levels_least)) whole.1 whole.0 is_whole c.requires.0.levels c.mark_below-idle.ensures
          c.mark_without-mark.ensures) _
          c.put_mark.ensures,
      c.mark_below-idle.ensures.exact fit.inputs_least,
    )
