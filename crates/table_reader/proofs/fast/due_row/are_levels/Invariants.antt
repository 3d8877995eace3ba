-- `table_reader::fast::due_row::are_levels` meets its contract. The loop's invariant: the first i levels are there.
-- Assumes nothing.
use Rattle.std.specs.Prelude.{◌<◌, ◌+◌, ◌*◌}
use Rattle.laws.specs.Prelude.{ℕ, get_or}
use Rattle.rules.specs.Text.{space_byte}
use Rattle.table_reader.specs.Fast.Plain.{Plain}
use Rattle.table_reader.proofs.fast.due_row.are_levels.Given as goal

abbrev pub invariant-loop-i : goal.invariant-loop-i
invariant-loop-i l = (k : ℕ) → k < l.i → Plain l.s (l.at + 2 * k) (get_or l.levels k 0) space_byte
