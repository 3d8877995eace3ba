-- `first_place` meets its contract.
-- Assumes nothing.
use Rattle.lister.proofs.Openings.{starts_at}
use Rattle.lister.proofs.calls.first_place.Goals as goal

pub returns : goal.returns
returns c = starts_at _ _ c.open.ensures _ c.unwrap_or.ensures
