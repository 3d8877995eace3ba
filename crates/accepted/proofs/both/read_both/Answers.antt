-- `accepted::both::read_both` meets its contract: the refusals of the net sheet, or the result of reading the table sheet.
-- Assumes nothing.
use borrow.Author.Rules.{rules}
use Rattle.accepted.specs.Taken.{net_refused_lem, net_taken}
use Rattle.accepted.specs.Both.{both_net_refused}
use Rattle.accepted.proofs.both.read_both.Goals as goal

pub read_beside-requires : goal.read_beside-requires
read_beside-requires c = (net_taken _ _ c.read_net.ensures _ c.in-Ok.is, search rules)

pub returns-in-Err : goal.returns-in-Err
returns-in-Err c = both_net_refused _ _ _ _ (net_refused_lem _ _ c.read_net.ensures _ c.in-Err.is)
