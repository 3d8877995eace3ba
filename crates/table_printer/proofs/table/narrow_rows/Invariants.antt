-- `table_printer::table::narrow_rows` meets its contract. The loop's invariant: `levels` begins with the levels of index k, and the rows
-- from k on are left to write at p.
-- Assumes nothing.
use Rattle.std.specs.Prelude.{◌≡◌}
use Rattle.laws.specs.Prelude.{length, take, drop}
use Rattle.rules.specs.Limits.{most_inputs}
use Rattle.rules.specs.Sheets.Sheets.{levels_at}
use Rattle.rules.specs.Sheets.Printed.{printed_rows}
use Rattle.net_sheets.specs.Text.Put.{NetLeft}
use Rattle.table_printer.proofs.table.narrow_rows.Given as goal

abbrev pub invariant-loop-ink : goal.invariant-loop-ink
invariant-loop-ink l =
    (length l.levels ≡ most_inputs) × (take l.n l.levels ≡ levels_at l.m l.n l.ink-index)
    × NetLeft l.out l.p (printed_rows l.m l.n l.ink-index (drop l.ink-index l.inks)) l.initial.out l.at (printed_rows l.m l.n 0 l.inks)
