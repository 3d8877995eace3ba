-- `loose_sheets::reader::inks::ink_field` meets its contract: two bytes are recognised, or the field is judged.
-- Assumes nothing.
use Rattle.loose_sheets.specs.Fast.Plain.{plain_ink}
use Rattle.loose_sheets.proofs.reader.inks.ink_field.Goals as goal

pub returns-in-Some : goal.returns-in-Some
returns-in-Some c = plain_ink _ _ _ _ c.in-Some.ensures.1 c.in-Some.ensures.0
