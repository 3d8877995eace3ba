-- `gate_tables::samples::input_wires` meets its contract. The loop's invariant: the rows of the first `i` inputs are written. Assumes nothing.
use Rattle.std.specs.Prelude.{◌≡◌}
use Rattle.laws.specs.Prelude.{ℕ, length}
use Rattle.rules.specs.Nets.Filling.{input_groups}
use Rattle.gate_tables.specs.Store.{WireRows}
use Rattle.gate_tables.proofs.samples.input_wires.Given as goal

abbrev pub invariant-loop-i : goal.invariant-loop-i
invariant-loop-i l = (length l.wires ≡ length l.initial.wires) × ((f : ℕ → ℕ) → WireRows l.m l.n f (input_groups l.n) l.i l.wires)
