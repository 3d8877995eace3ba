-- `net_sheets::reader::digits::copy_digits` meets its contract. The loop's invariant: the first i digits are pasted.
-- Assumes nothing.
use Rattle.std.specs.Prelude.{◌≤◌, ◌≡◌}
use Rattle.laws.specs.Prelude.{paste}
use Rattle.net_sheets.specs.Reader.Digits.{digits_at}
use Rattle.net_sheets.proofs.reader.digits.copy_digits.Given as goal

abbrev pub invariant-loop-i : goal.invariant-loop-i
invariant-loop-i l = (l.digits ≡ paste l.initial.digits l.from (digits_at l.s l.at l.count) l.i) × (l.i ≤ l.count)
