-- `arrivals::call::settle_by` meets its contract: the refusals of the arrival sheet, or when the output settles.
-- Assumes nothing.
use Rattle.accepted.specs.Taken.{sound}
use Rattle.arrivals.specs.ArrivalAnswers.{sheet_refused, sheet_held, sheet_settles}
use Rattle.arrivals.proofs.call.settle_by.Goals as goal

pub settling-requires : goal.settling-requires
settling-requires c = (sound _ _ _ c.requires, sheet_held _ _ _ c.requires _ _ c.read_arrivals.ensures _ c.in-Ok.is)

pub returns-in-Err : goal.returns-in-Err
returns-in-Err c = sheet_refused _ _ _ c.requires _ _ c.read_arrivals.ensures _ _ c.in-Err.is

pub returns-in-Ok : goal.returns-in-Ok
returns-in-Ok c = sheet_settles _ _ _ c.requires _ _ c.read_arrivals.ensures _ c.in-Ok.is _ _ c.settling.ensures
