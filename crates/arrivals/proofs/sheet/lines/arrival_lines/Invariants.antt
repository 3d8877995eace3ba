-- `arrivals::sheet::lines::arrival_lines` meets its contract. The loop's invariant: the lines from here are the lines from the start.
-- Assumes nothing.
use Rattle.nets.specs.Forms.{names_in}
use Rattle.arrivals.specs.Sheet.Lines.{ArrivalReading}
use Rattle.arrivals.proofs.sheet.lines.arrival_lines.Given as goal

abbrev pub invariant-loop-i : goal.invariant-loop-i
invariant-loop-i l = ArrivalReading (names_in l.net l.header) l.s l.at l.times l.place l.i
