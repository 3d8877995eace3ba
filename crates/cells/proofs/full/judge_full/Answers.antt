-- `cells::full::judge_full` meets its contract. Assumes nothing.
use Rattle.cells.specs.Bound.{first_open, cell_none_open}
use Rattle.cells.proofs.full.judge_full.Goals as goal

pub returns-then-k-cells : goal.returns-then-k-cells
returns-then-k-cells c = first_open _ _ _ c.first_at_least-k.ensures c.requires.1 c.if-k-cells.true

pub returns : goal.returns
returns c = cell_none_open _ _ _ c.first_at_least-k.ensures c.if-k-cells.false
