-- `loose_sheets::reader::levels::level_field` meets its contract: two bytes are recognised, or the field is judged.
-- Assumes nothing.
use Rattle.loose_sheets.specs.Fast.Plain.{plain_level}
use Rattle.loose_sheets.proofs.reader.levels.level_field.Goals as goal

pub returns-in-Some : goal.returns-in-Some
returns-in-Some c = rw c.spaces_end.ensures (plain_level _ _ _ _ c.in-Some.ensures.1 c.in-Some.ensures.0)
