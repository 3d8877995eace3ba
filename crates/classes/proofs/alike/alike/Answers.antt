-- `classes::alike::alike` meets its contract: the two are alike if no difference is found. Assumes nothing.
use Rattle.classes.specs.Differences.{none_alike}
use Rattle.classes.proofs.alike.alike.Goals as goal

pub returns : goal.returns
returns c = none_alike _ _ _ _ _ _ c.first_difference.ensures c.is_none.ensures
