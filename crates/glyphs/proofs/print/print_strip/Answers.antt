-- `glyphs::print::print_strip` meets its contract: the net's values at the strip's places, and the rows. Assumes nothing.
use Rattle.std.specs.Prelude.{◌≤◌, ◌+◌, ◌*◌}
use Rattle.laws.specs.Prelude.{mul-le-mul_right, arith}
use Rattle.nets.specs.Sound.{sound_size}
use Rattle.glyphs.specs.Offsets.{span_of}
use Rattle.glyphs.specs.Strips.{strip_values_ready, strip_rows_ready, strip_done}
use Rattle.glyphs.proofs.print.print_strip.Goals as goal

pub starts_of-starts-requires : goal.starts_of-starts-requires
starts_of-starts-requires c =
    let ready = c.requires in
    ((sound_size _ ready.sound).inputs_most, ready.near, omega (arith, ready.wide.most), omega (arith, ready.inside, ready.high.most))

pub values-start-requires : goal.values-start-requires
values-start-requires c = strip_values_ready c.requires _ c.starts_of-starts.ensures

pub print_rows-requires : goal.print_rows-requires
print_rows-requires c =
    strip_rows_ready c.requires _ c.starts_of-starts.ensures c.values-start.ensures

pub returns : goal.returns
returns c =
    strip_done c.requires _ c.starts_of-starts.ensures c.values-start.ensures _ c.print_rows.ensures

pub overflow_mul-rows : goal.overflow_mul-rows
overflow_mul-rows c =
    let small : let a = c.args in (a.rows * span_of a.width ≤ (a.height + 5) * span_of a.width) × (a.y * a.width ≤ a.height * a.width) =
    let few : c.args.rows ≤ c.args.height + 5 = omega (arith, c.requires.inside) in
    let low : c.args.y ≤ c.args.height = omega (arith, c.requires.inside) in
    (mul-le-mul_right _ few, mul-le-mul_right _ low) in
    omega (arith, small.0, c.requires.room)

pub overflow_mul-y : goal.overflow_mul-y
overflow_mul-y c =
    let small : let a = c.args in (a.rows * span_of a.width ≤ (a.height + 5) * span_of a.width) × (a.y * a.width ≤ a.height * a.width) =
    let few : c.args.rows ≤ c.args.height + 5 = omega (arith, c.requires.inside) in
    let low : c.args.y ≤ c.args.height = omega (arith, c.requires.inside) in
    (mul-le-mul_right _ few, mul-le-mul_right _ low) in
    omega (arith, small.1, c.requires.output)
