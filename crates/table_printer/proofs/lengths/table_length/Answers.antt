-- `table_printer::lengths::table_length` meets its contract.
-- Assumes nothing.
use Rattle.std.specs.Prelude.{◌≤◌, ◌+◌, ◌*◌}
use Rattle.laws.specs.Prelude.{ℕ, ap, mul-le-mul, arith}
use Rattle.table_printer.specs.Lengths.{names_total, printed_table_length}
use Rattle.table_printer.proofs.lengths.table_length.Goals as goal

pub overflow_add-result-4 : goal.overflow_add-result-4
overflow_add-result-4 c =
    let inputs : c.args.h.inputs ≤ 64 = omega (arith, c.requires.0) in
    let rows : c.args.cells * (2 * c.args.h.inputs + 2) ≤ 65536 * 130 =
    let cells : c.args.cells ≤ 65536 = omega (arith, c.requires.1) in
    let row : 2 * c.args.h.inputs + 2 ≤ 130 = omega (arith, inputs) in
    mul-le-mul cells row in
    omega (arith, inputs, rows)

pub returns : goal.returns
returns c s inks inside e =
    let names = names_total s c.args.h inside c.args.h.inputs (omega arith) in
    let total = printed_table_length s c.args.h inks in
    let cells = ap (λ (k : ℕ). k * (2 * c.args.h.inputs + 2)) e in
    omega (arith, c.decimal_length.ensures.0, c.decimal_length-2.ensures.0, c.names_length.ensures.0, names, total, cells)

pub overflow_add-result-2 : goal.overflow_add-result-2
overflow_add-result-2 c =
    let inputs : c.args.h.inputs ≤ 64 = omega (arith, c.requires.0) in
    omega (arith, inputs)

pub overflow_mul-result : goal.overflow_mul-result
overflow_mul-result c =
    let inputs : c.args.h.inputs ≤ 64 = omega (arith, c.requires.0) in
    omega (arith, inputs)

pub overflow_add-result-3 : goal.overflow_add-result-3
overflow_add-result-3 c =
    let inputs : c.args.h.inputs ≤ 64 = omega (arith, c.requires.0) in
    omega (arith, inputs)

pub overflow_mul-result-2 : goal.overflow_mul-result-2
overflow_mul-result-2 c =
    let inputs : c.args.h.inputs ≤ 64 = omega (arith, c.requires.0) in
    let rows : c.args.cells * (2 * c.args.h.inputs + 2) ≤ 65536 * 130 =
    let cells : c.args.cells ≤ 65536 = omega (arith, c.requires.1) in
    let row : 2 * c.args.h.inputs + 2 ≤ 130 = omega (arith, inputs) in
    mul-le-mul cells row in
    omega (arith, rows)
