-- `gate_tables::gate_pass::least_sum` meets its contract. The loop's invariant: `best` is the least next sum among the first `u` rows. Assumes nothing.
use Rattle.gate_tables.specs.GateRows.{LeastTo}
use Rattle.gate_tables.proofs.gate_pass.least_sum.Given as goal

abbrev pub invariant-loop-u : goal.invariant-loop-u
invariant-loop-u l = LeastTo l.left l.right l.next l.u l.best
