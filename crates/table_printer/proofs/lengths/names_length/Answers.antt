-- `table_printer::lengths::names_length` meets its contract. The loop's invariant: `total` is the length of the names so far.
-- Assumes nothing.
use Rattle.std.specs.Prelude.{◌<◌, ◌+◌, ◌≡◌}
use Rattle.laws.specs.Prelude.{ℕ, ap, refl, List, add-one, arith, get_or, length-take, length-take-le, get_or-take}
use Rattle.table_printer.specs.Lengths.{lens_total}
use Rattle.table_printer.proofs.lengths.names_length.Goals as goal

more : (lens : List ℕ) (i : ℕ) → lens_total lens (i + 1) ≡ lens_total lens i + (get_or lens i 0 + 1)
unfolding lens_total
more lens i = ap (lens_total lens) (add-one i)

pub loop-len-init : goal.loop-len-init
unfolding lens_total
loop-len-init c = (refl, omega arith)

pub loop-len-preserved : goal.loop-len-preserved
loop-len-preserved c =
    let lens = c.args.h.lens in
    let i : ℕ = c.loop-len.len-index in
    let turn : i < c.args.h.inputs = omega (arith, length-take c.args.h.inputs lens, c.loop-len-test.true) in
    (omega (arith, more lens i, get_or-take c.args.h.inputs lens i 0 turn), omega arith)

pub returns : goal.returns
returns c =
    let e : c.loop-len.len-index ≡ c.args.h.inputs = omega (arith, length-take-le c.args.h.inputs c.args.h.lens (omega arith), c.loop-len-test.false) in
    rw e at c.loop-len.invariant
