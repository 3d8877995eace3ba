-- `table_printer::lengths::names_length` meets its contract. The loop's invariant: `total` is the length of the first i names.
-- Assumes nothing.
use Rattle.std.specs.Prelude.{◌≤◌, ◌*◌, ◌≡◌}
use Rattle.table_printer.specs.Lengths.{lens_total}
use Rattle.table_printer.proofs.lengths.names_length.Given as goal

abbrev pub invariant-loop-len : goal.invariant-loop-len
invariant-loop-len l = (l.total ≡ lens_total l.fn.h.lens l.len-index) × (l.total ≤ 256 * l.len-index)
