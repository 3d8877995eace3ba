-- `table_printer::lengths::decimal_length` meets its contract. The loop's invariant: the digits counted plus those of `rest` are one more
-- than those of k, since the last digit of `rest` is in both.
-- Assumes nothing.
use Rattle.std.specs.Prelude.{◌≤◌, ◌+◌, ◌%◌, ◌/◌, ◌≡◌, ◌∷◌}
use Rattle.laws.specs.Prelude.{ℕ, ◌∙◌, ap, [], arith, length, length-append}
use Rattle.rules.specs.Text.{digit_byte, decimal}
use Rattle.laws.specs.Numbers.Decimals.{decimal_one, decimal_more, decimal_length}
use Rattle.table_printer.specs.Lengths.{most_decimal}
use Rattle.table_printer.proofs.lengths.decimal_length.Goals as goal

more : (rest : ℕ) → 10 ≤ rest → length (decimal rest) ≡ length (decimal (rest / 10)) + 1
more rest h = ap length (decimal_more rest h) ∙ length-append (decimal (rest / 10)) (digit_byte (rest % 10) ∷ [])

pub overflow_add-digits : goal.overflow_add-digits
overflow_add-digits c =
    let most : length (decimal c.args.k) ≤ most_decimal = decimal_length 19 c.args.k (omega (arith, c.ranges.k)) in
    omega (arith, most, more c.loop-rest.rest c.loop-rest-test.true)

pub loop-rest-preserved : goal.loop-rest-preserved
loop-rest-preserved c = omega (arith, more c.loop-rest.rest c.loop-rest-test.true)

pub returns : goal.returns
returns c =
    let most : length (decimal c.args.k) ≤ most_decimal = decimal_length 19 c.args.k (omega (arith, c.ranges.k)) in
    let one : length (decimal c.loop-rest.rest) ≡ 1 = ap length (decimal_one c.loop-rest.rest c.loop-rest-test.false) in
    omega (arith, one, most)
