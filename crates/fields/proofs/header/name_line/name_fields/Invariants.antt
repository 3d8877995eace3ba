-- `fields::header::name_line::name_fields` meets its contract. The loop's invariant: the names from here are the names from the start.
-- Assumes nothing.
use Rattle.std.specs.Prelude.{◌-◌}
use Rattle.fields.specs.Steps.{layout_of}
use Rattle.fields.specs.Header.NameLine.{Reading}
use Rattle.fields.proofs.header.name_line.name_fields.Given as goal

abbrev pub invariant-loop-i : goal.invariant-loop-i
invariant-loop-i l = Reading (layout_of l.layout) l.s l.at l.levels l.inputs l.last l.header l.place l.i
