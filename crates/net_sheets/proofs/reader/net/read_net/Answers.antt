-- `net_sheets::reader::net::read_net` meets its contract: the header, then the rest.
-- Assumes nothing.
use Rattle.std.proofs.lemmas.Result.{err_from_is_err_and}
use Rattle.rules.specs.Text.{newline}
use Rattle.net_sheets.specs.Reader.NetReading.{net_sheet_back, net_on}
use Rattle.net_sheets.proofs.reader.net.read_net.Goals as goal

pub from_heading-requires : goal.from_heading-requires
from_heading-requires c = c.header_lines.ensures.held _ c.in_ok-read.was

pub returns-in_err-read : goal.returns-in_err-read
unfolding newline
returns-in_err-read c =
    let p = err_from_is_err_and c.from_residual.result c.from_residual.ensures.1 in
    rw (p.1, p.2) (net_sheet_back _ _ c.header_lines.ensures _ c.in_err-read.was)

pub returns : goal.returns
unfolding newline
returns c = net_on _ _ c.header_lines.ensures _ _ c.in_ok-read.was c.from_heading.ensures
