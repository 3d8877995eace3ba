-- `net_sheets::reader::keys::key_names` meets its contract. The loop's invariant: the first `i` names have their keys.
-- Assumes nothing.
use Rattle.nets.specs.Forms.{names_in}
use Rattle.net_sheets.specs.Reader.Keys.{Keyed}
use Rattle.net_sheets.proofs.reader.keys.key_names.Given as goal

abbrev pub invariant-loop-i : goal.invariant-loop-i
invariant-loop-i l = Keyed (names_in l.s l.header) l.keys l.lens l.i
