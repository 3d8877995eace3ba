-- `fields::header::name_line::due_after` meets its contract.
-- Assumes nothing.
use Rattle.fields.specs.Header.NameLine.{due_last, due_space}
use Rattle.fields.proofs.header.name_line.due_after.Goals as goal

pub returns-then-i-n : goal.returns-then-i-n
returns-then-i-n c = due_last _ _ _ c.if-i-n.true

pub returns : goal.returns
returns c = due_space _ _ _ c.requires c.if-i-n.false
