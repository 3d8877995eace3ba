-- `keeping::changed::changed_gates` meets its contract. The loop's invariant: `set` has the changed gates among the first k. Assumes nothing.
use Rattle.std.specs.Prelude.{◌≡◌}
use Rattle.keeping.specs.Changed.{set_to}
use Rattle.keeping.proofs.changed.changed_gates.Given as goal

abbrev pub invariant-loop-k : goal.invariant-loop-k
invariant-loop-k l = l.set ≡ set_to l.old l.new l.k
