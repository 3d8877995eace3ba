-- `arrivals::sheet::reader::read_arrivals` meets its contract: line 1, then the rest.
-- Assumes nothing.
use Rattle.std.proofs.lemmas.Result.{err_from_is_err_and}
use Rattle.rules.specs.Text.{text}
use Rattle.arrivals.specs.Sheet.ArrivalReading.{arrival_heading_back, arrival_heading_on}
use Rattle.arrivals.proofs.sheet.reader.read_arrivals.Goals as goal

pub returns-in_err-words : goal.returns-in_err-words
unfolding text
returns-in_err-words c =
    let p = err_from_is_err_and c.from_residual.result c.from_residual.ensures.1 in
    rw (p.1, p.2) (arrival_heading_back _ _ _ c.three_words.ensures _ c.in_err-words.was)

pub returns : goal.returns
unfolding text
returns c = arrival_heading_on _ _ _ c.three_words.ensures _ c.from_lines.result c.in_ok-words.was c.from_lines.ensures
