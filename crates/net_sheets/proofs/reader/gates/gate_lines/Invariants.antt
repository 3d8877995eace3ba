-- `net_sheets::reader::gates::gate_lines` meets its contract. The loop's invariant: the gates from here are the gates from the start.
-- Assumes nothing.
use Rattle.net_sheets.specs.Reader.GateLines.{Building}
use Rattle.net_sheets.proofs.reader.gates.gate_lines.Given as goal

abbrev pub invariant-loop-gates : goal.invariant-loop-gates
invariant-loop-gates l = Building l.s l.at l.header l.keys l.lens l.net l.used l.next l.gates
