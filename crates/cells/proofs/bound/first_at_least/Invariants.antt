-- `cells::bound::first_at_least` meets its contract. The loop's invariant: every cell so far is below the bound. Assumes nothing.
use Rattle.std.specs.Prelude.{◌<◌}
use Rattle.laws.specs.Prelude.{ℕ, get_or}
use Rattle.cells.proofs.bound.first_at_least.Given as goal

abbrev pub invariant-loop-k : goal.invariant-loop-k
invariant-loop-k l = (p : ℕ) → p < l.k → get_or l.cells p 0 < l.bound
