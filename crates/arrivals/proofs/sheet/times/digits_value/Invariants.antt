-- `arrivals::sheet::times::digits_value` meets its contract. The loop's invariant: the digits so far write `value`.
-- Assumes nothing.
use Rattle.arrivals.specs.Sheet.Times.{ArrivalCounted}
use Rattle.arrivals.proofs.sheet.times.digits_value.Given as goal

abbrev pub invariant-loop-b : goal.invariant-loop-b
invariant-loop-b l = ArrivalCounted l.w l.value l.b-index
