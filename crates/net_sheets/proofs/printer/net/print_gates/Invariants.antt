-- `net_sheets::printer::net::print_gates` meets its contract. The loop's invariant: the lines from gate k on are left to write at p.
-- Assumes nothing.
use Rattle.net_sheets.specs.Text.Put.{NetLeft}
use Rattle.net_sheets.specs.Printer.Gates.{printed_gates, lines_from}
use Rattle.net_sheets.proofs.printer.net.print_gates.Given as goal

abbrev pub invariant-loop-k : goal.invariant-loop-k
invariant-loop-k l = NetLeft l.out l.p (lines_from l.s l.h l.net l.k) l.initial.out l.at (printed_gates l.s l.h l.net)
