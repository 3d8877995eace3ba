-- `loose_sheets::tidy::write_sheet` meets its contract: the sheet's length, then the sheet, copied or printed.
-- Assumes nothing.
use Rattle.loose_sheets.specs.Tidying.{loose_output_short, loose_output_written, itself_written}
use Rattle.loose_sheets.proofs.tidy.write_sheet.Goals as goal

pub returns-then-out-need : goal.returns-then-out-need
returns-then-out-need c = loose_output_short _ _ _ c.requires.0 _ c.table_length-need.ensures _ c.if-out-need.true

pub returns-then-strict : goal.returns-then-strict
returns-then-strict c =
    itself_written _ _ _ c.requires.0 _ c.table_length-need.ensures c.args.out.now c.if-out-need.false
    (c.requires.2 c.if-strict.true) _ _ c.copy.ensures

pub returns : goal.returns
returns c =
    loose_output_written _ _ _ c.requires.0 _ c.table_length-need.ensures c.args.out.now c.if-out-need.false _ _
    c.print_table.ensures
