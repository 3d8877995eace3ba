-- `table_reader::digits::judge_digit` meets its contract, by the field's length and byte.
-- Assumes nothing.
use Rattle.table_reader.specs.Digits.{digit_long, digit_low, digit_high, digit_good}
use Rattle.table_reader.proofs.digits.judge_digit.Goals as goal

pub returns-then-w-ne1 : goal.returns-then-w-ne1
returns-then-w-ne1 c = digit_long _ _ _ c.if-w-ne1.true

pub returns-then-b-lt-ZERO : goal.returns-then-b-lt-ZERO
returns-then-b-lt-ZERO c = digit_low _ _ _ c.if-w-ne1.false c.if-b-lt-ZERO.true

pub returns-then-m-b : goal.returns-then-m-b
returns-then-m-b c = digit_high _ _ _ c.if-w-ne1.false c.if-b-lt-ZERO.false c.if-m-b.true

pub returns : goal.returns
returns c = digit_good _ _ _ c.if-w-ne1.false c.if-b-lt-ZERO.false c.if-m-b.false
