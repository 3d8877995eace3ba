-- `net_sheets::reader::keys::key_number` meets its contract, by the number of digits.
-- Assumes nothing.
use native.Mathlib.Omega.{arith}
use Rattle.net_sheets.specs.Reader.Keys.{one_digit_keyed, two_digits_keyed}
use Rattle.net_sheets.proofs.reader.keys.key_number.Goals as goal

pub returns-then-tens-eq0 : goal.returns-then-tens-eq0
returns-then-tens-eq0 c = one_digit_keyed _ _ _ _ c.requires.0 (omega (arith, c.if-tens-eq0.true))

pub returns-else-tens-eq0 : goal.returns-else-tens-eq0
returns-else-tens-eq0 c = two_digits_keyed _ _ _ _ c.requires.0 (omega (arith, c.if-tens-eq0.false)) c.requires.1
