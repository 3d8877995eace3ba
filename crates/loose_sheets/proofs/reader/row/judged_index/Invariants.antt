-- `loose_sheets::reader::row::judged_index` meets its contract. The loop's invariant: the index from here is the index from the start.
-- Assumes nothing.
use Rattle.loose_sheets.specs.Reader.Index.{InIndex}
use Rattle.loose_sheets.proofs.reader.row.judged_index.Given as goal

abbrev pub invariant-loop : goal.invariant-loop
invariant-loop l = InIndex l.s l.at l.m l.n l.place l.index l.counter
