-- `arrivals::sheet::reader::from_lines` meets its contract: the lines, with nothing after them.
-- Assumes nothing.
use Rattle.std.proofs.lemmas.Result.{err_from_is_err_and}
use Rattle.arrivals.specs.Sheet.ArrivalReading.{lines_back, lines_over, lines_closed}
use Rattle.arrivals.proofs.sheet.reader.from_lines.Goals as goal

pub returns-in_err-read : goal.returns-in_err-read
returns-in_err-read c =
    let p = err_from_is_err_and c.from_residual.result c.from_residual.ensures.1 in
    rw (p.1, p.2) (lines_back _ _ _ _ c.arrival_lines.ensures _ c.in_err-read.was)

pub returns-then-read-s : goal.returns-then-read-s
returns-then-read-s c = lines_over _ _ _ _ c.arrival_lines.ensures _ c.in_ok-read.was c.if-read-s.true

pub returns : goal.returns
returns c = lines_closed _ _ _ _ c.arrival_lines.ensures _ c.in_ok-read.was c.if-read-s.false
