-- `table_printer::lengths::decimal_length` meets its contract. The loop's invariant: the digits counted plus those of `rest` are one more
-- than those of k, since the last digit of `rest` is in both.
-- Assumes nothing.
use Rattle.std.specs.Prelude.{◌+◌, ◌≡◌}
use Rattle.laws.specs.Prelude.{length}
use Rattle.rules.specs.Text.{decimal}
use Rattle.table_printer.proofs.lengths.decimal_length.Given as goal

abbrev pub invariant-loop-rest : goal.invariant-loop-rest
invariant-loop-rest l = l.digits + length (decimal l.rest) ≡ length (decimal l.k) + 1

abbrev pub decreases-loop-rest : goal.decreases-loop-rest
decreases-loop-rest l = l.rest
