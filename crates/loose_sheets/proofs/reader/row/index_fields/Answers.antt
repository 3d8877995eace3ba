-- `loose_sheets::reader::row::index_fields` meets its contract: the row matches its frame, or its fields are judged.
-- Assumes nothing.
use Rattle.loose_sheets.specs.Fast.Framed.{framed_reads}
use Rattle.loose_sheets.proofs.reader.row.index_fields.Goals as goal

pub returns-in-Some : goal.returns-in-Some
returns-in-Some c = framed_reads _ _ _ _ c.requires.0 _ _ c.requires.1 _ c.in-Some.ensures
