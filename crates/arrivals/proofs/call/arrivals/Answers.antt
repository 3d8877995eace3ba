-- `arrivals::call::arrivals` meets its contract: the refusals of the net sheet, or the result for the arrival sheet.
-- Assumes nothing.
use Rattle.laws.specs.Prelude.{sym}
use Rattle.laws.specs.Calls.Arrivals.{arrivals_net_refused}
use Rattle.accepted.specs.Taken.{net_refused_lem}
use Rattle.arrivals.proofs.call.arrivals.Goals as goal

pub returns-in-Err : goal.returns-in-Err
returns-in-Err c = sym (arrivals_net_refused _ _ _ _ _ (net_refused_lem _ _ c.read_net.ensures _ c.in-Err.is))
