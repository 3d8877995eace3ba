-- `net_sheets::reader::net::from_heading` meets its contract: line 4, then the gate lines.
-- Assumes nothing.
use Rattle.std.proofs.lemmas.Result.{err_from_is_err_and}
use Rattle.rules.specs.Text.{text}
use Rattle.net_sheets.specs.Reader.NetReading.{heading_back, heading_on}
use Rattle.net_sheets.proofs.reader.net.from_heading.Goals as goal

pub returns-in_err-words : goal.returns-in_err-words
unfolding text
returns-in_err-words c =
    let p = err_from_is_err_and c.from_residual.result c.from_residual.ensures.1 in
    rw (p.1, p.2) (heading_back _ _ _ _ c.three_words.ensures _ c.in_err-words.was)

pub returns : goal.returns
unfolding text
returns c = heading_on _ _ _ _ c.three_words.ensures _ _ c.in_ok-words.was c.from_gates.ensures
