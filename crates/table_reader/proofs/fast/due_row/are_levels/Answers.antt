-- `table_reader::fast::due_row::are_levels` meets its contract. The loop's invariant: the first i levels are there.
-- Assumes nothing.
use Rattle.laws.specs.Prelude.{arith}
use Rattle.table_reader.specs.Fast.Due.{levels_stand}
use Rattle.table_reader.proofs.fast.due_row.are_levels.Goals as goal

pub returns : goal.returns
returns c _ = levels_stand _ _ _ _ c.requires.0 (λ k h. c.loop-i.invariant k (omega (arith, c.loop-i-test.false)))
