-- `arrivals::settling::input_ends` meets its contract. The loop's invariant: the first i inputs have their ends.
-- Assumes nothing.
use Rattle.arrivals.specs.Wires.{WiresAt, from_of, to_of, first_times}
use Rattle.arrivals.proofs.settling.input_ends.Given as goal

abbrev pub invariant-loop-i : goal.invariant-loop-i
invariant-loop-i l = WiresAt (first_times from_of l.times l.i) (first_times to_of l.times l.i) l.ends
