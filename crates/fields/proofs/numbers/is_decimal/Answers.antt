-- `fields::numbers::is_decimal` meets its contract, by the number of digits.
-- Assumes nothing.
use Rattle.fields.specs.Decimals.{field_decimal_one, decimal_two}
use Rattle.fields.proofs.numbers.is_decimal.Goals as goal

pub returns-then-n-lt10 : goal.returns-then-n-lt10
returns-then-n-lt10 c = rw (field_decimal_one _ c.if-n-lt10.true) c.same_bytes.ensures

pub returns : goal.returns
returns c = rw (decimal_two _ c.if-n-lt10.false c.requires) c.same_bytes-2.ensures
