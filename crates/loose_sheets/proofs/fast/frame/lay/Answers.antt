-- `loose_sheets::fast::frame::lay` meets its contract. The loop's invariant: j places are laid out, with i levels, and the others have no weight.
-- Assumes nothing.
use Rattle.std.specs.Prelude.{◌<◌, ◌+◌}
use Rattle.laws.specs.Prelude.{arith}
use Rattle.laws.specs.Numbers.Sizes.{sized}
use Rattle.loose_sheets.specs.Fast.Frame.{most_laid}
use Rattle.loose_sheets.specs.Fast.Laying.{level_light, laying_start, laying_none, laying_space, laying_level}
use Rattle.loose_sheets.proofs.fast.frame.lay.Goals as goal

pub loop-j-init : goal.loop-j-init
loop-j-init c = laying_start _ _ _ c.requires.1

pub loop-j-preserved-then-is_space : goal.loop-j-preserved-then-is_space
loop-j-preserved-then-is_space c =
    let low : c.loop-j.j + 1 < most_laid = omega (arith, c.loop-j-test.true) in
    rw c.put_place.ensures (laying_space _ _ _ _ _ c.loop-j.invariant (omega (arith, c.if-i-eq0.false)) (omega (arith, low)))

pub power-weight-requires : goal.power-weight-requires
power-weight-requires c = let size = sized _ _ c.requires.0 in (size.levels_most, omega (arith, size.inputs_most))

pub overflow_cast-weight : goal.overflow_cast-weight
overflow_cast-weight c = omega (arith, c.power-weight.ensures, level_light _ _ c.loop-j.i c.requires.0)

pub overflow_sub-m : goal.overflow_sub-m
overflow_sub-m c = omega (arith, (sized _ _ c.requires.0).levels_most)

pub overflow_sub-m-else-is_space : goal.overflow_sub-m-else-is_space
overflow_sub-m-else-is_space c = omega (arith, (sized _ _ c.requires.0).levels_most)

pub overflow_cast-m-else-is_space : goal.overflow_cast-m-else-is_space
overflow_cast-m-else-is_space c = omega (arith, (sized _ _ c.requires.0).levels_least)

pub loop-j-preserved : goal.loop-j-preserved
loop-j-preserved c =
    let fewer : c.loop-j.i < c.args.n = omega (arith, c.loop-j.invariant.most, c.if-i-n.false) in
    let low : c.loop-j.j + 1 < most_laid = omega (arith, c.loop-j-test.true) in
    rw (c.put_place-else-is_space-2.ensures, c.put_place-else-is_space.ensures)
    (laying_level _ _ _ _ _ c.loop-j.invariant _ c.power-weight.ensures
    (omega (arith, c.power-weight.ensures, level_light _ _ c.loop-j.i c.requires.0)) fewer low)

pub returns : goal.returns
returns c = laying_none _ _ _ _ _ c.loop-j.invariant
