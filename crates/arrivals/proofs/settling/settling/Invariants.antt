-- `arrivals::settling::settling` meets its contract. The loop's invariant: the inputs and the first k gates have their ends.
-- Assumes nothing.
use Rattle.std.specs.Prelude.{◌≡◌}
use Rattle.rules.specs.Nets.Arrivals.{quarter}
use Rattle.arrivals.specs.Wires.{ArrivalTurned}
use Rattle.arrivals.proofs.settling.settling.Given as goal

abbrev pub invariant-loop-k : goal.invariant-loop-k
invariant-loop-k l = ArrivalTurned l.net l.delay l.initial.ends l.k l.ends × (l.step ≡ quarter l.delay)
