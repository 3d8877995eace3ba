-- `evaluation::fast::by_table::table_values` meets its contract. The loop's invariant: the first i inputs are in the indices. Assumes nothing.
use Rattle.std.specs.Prelude.{◌≡◌}
use Rattle.laws.specs.Prelude.{length}
use Rattle.evaluation.specs.Fast.ByTable.{most_indices, Indexed}
use Rattle.evaluation.proofs.fast.by_table.table_values.Given as goal

abbrev pub invariant-loop-start : goal.invariant-loop-start
invariant-loop-start l = (length l.indices ≡ most_indices) × Indexed l.fn.net.levels l.fn.starts l.wires l.count l.start-index l.indices
