-- `gate_tables::gate_pass::sum_classes` meets its contract. The loop's invariant: the classes of the sums done are known. Each turn does one sum.
-- Assumes nothing.
use Rattle.std.specs.Prelude.{◌≡◌}
use Rattle.laws.specs.Prelude.{length}
use Rattle.gate_tables.specs.GateRows.{sums_left}
use Rattle.gate_tables.specs.GatePass.{AtSum}
use Rattle.gate_tables.proofs.gate_pass.sum_classes.Given as goal

abbrev pub invariant-loop-u : goal.invariant-loop-u
invariant-loop-u l =
    (length l.firsts ≡ length l.initial.firsts) × (length l.table ≡ length l.initial.table)
    × AtSum l.m l.n l.cells l.a l.b l.last l.left l.right l.ys l.other l.firsts l.table l.next l.count

abbrev pub decreases-loop-u : goal.decreases-loop-u
decreases-loop-u l = sums_left (length l.left) (length l.right) l.next
