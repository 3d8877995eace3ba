-- `net_sheets::printer::net::print_digits` meets its contract. The loop's invariant: the digits from i on are left to write.
-- Assumes nothing.
use Rattle.std.specs.Prelude.{◌+◌}
use Rattle.laws.specs.Prelude.{map, drop}
use Rattle.rules.specs.Text.{digit_byte}
use Rattle.net_sheets.specs.Text.Put.{NetLeft}
use Rattle.net_sheets.proofs.printer.net.print_digits.Given as goal

abbrev pub invariant-loop-i : goal.invariant-loop-i
invariant-loop-i l = NetLeft l.out (l.fn.at + l.i) (drop l.i (map digit_byte l.digits)) l.initial.out l.fn.at (map digit_byte l.digits)
