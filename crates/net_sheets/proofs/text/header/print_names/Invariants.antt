-- `net_sheets::text::header::print_names` meets its contract. The loop's invariant: the names from i on are left to write at p.
-- Assumes nothing.
use Rattle.nets.specs.Forms.{name_in}
use Rattle.net_sheets.specs.Text.Put.{NetLeft}
use Rattle.net_sheets.specs.Text.Lines.{spaced_from}
use Rattle.net_sheets.proofs.text.header.print_names.Given as goal

abbrev pub invariant-loop-i : goal.invariant-loop-i
invariant-loop-i l = NetLeft l.out l.p (spaced_from (name_in l.s l.h) l.i l.count) l.initial.out l.at (spaced_from (name_in l.s l.h) 0 l.count)
