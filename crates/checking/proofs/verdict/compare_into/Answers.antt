-- `checking::verdict::compare_into` meets its contract: the inks are copied, then compared, by a quick test or cell by cell.
-- Assumes nothing.
use Rattle.checking.specs.Comparing.{agree_all, inks_compared}
use Rattle.checking.proofs.verdict.compare_into.Goals as goal

pub returns-then-all_same : goal.returns-then-all_same
returns-then-all_same c =
    inks_compared _ _ _ _ _ _ c.requires.1 c.copy.ensures _ (agree_all _ _ _ (λ p h _. c.all_same.ensures c.if-all_same.true p h))

pub returns : goal.returns
returns c =
    inks_compared _ _ _ _ _ _ c.requires.1 c.copy.ensures _ c.compare.ensures
