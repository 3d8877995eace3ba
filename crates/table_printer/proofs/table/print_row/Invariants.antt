-- `table_printer::table::print_row` meets its contract. The loop's invariant: the row from level i on is left to write at p.
-- Assumes nothing.
use Rattle.net_sheets.specs.Text.Put.{NetLeft}
use Rattle.table_printer.specs.Rows.Rows.{row_text, row_from_input}
use Rattle.table_printer.proofs.table.print_row.Given as goal

abbrev pub invariant-loop-level : goal.invariant-loop-level
invariant-loop-level l = NetLeft l.out l.p (row_from_input l.levels l.ink l.level-index) l.initial.out l.at (row_text l.levels l.ink)
