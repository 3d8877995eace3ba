-- `net_sheets::printer::output::write_sheet` meets its contract. Assumes nothing.
use Rattle.net_sheets.specs.Printer.Output.{sheet_short, sheet_copied}
use Rattle.net_sheets.proofs.printer.output.write_sheet.Goals as goal

pub returns-then-out-length : goal.returns-then-out-length
returns-then-out-length c = sheet_short _ _ _ _ _ c.print_net-length.ensures c.if-out-length.true

pub returns : goal.returns
returns c =
    sheet_copied _ _ _ _ _ c.print_net-length.ensures c.if-out-length.false _ _
    c.copy.ensures
