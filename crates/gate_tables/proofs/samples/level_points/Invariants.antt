-- `gate_tables::samples::level_points` meets its contract. The loop's invariant: the points of the levels below `l` are written. Assumes
-- nothing.
use Rattle.std.specs.Prelude.{◌*◌}
use Rattle.gate_tables.specs.Store.{PutAt}
use Rattle.gate_tables.proofs.samples.level_points.Given as goal

abbrev pub invariant-loop-l : goal.invariant-loop-l
invariant-loop-l l = PutAt (λ j. j * l.w) 0 l.l l.initial.out l.out
