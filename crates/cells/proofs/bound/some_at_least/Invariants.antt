-- `cells::bound::some_at_least` meets its contract. The loop's invariant: if none is found so far, every cell so far is below the bound. Assumes nothing.
use Rattle.std.specs.Prelude.{◌<◌, ◌≡◌}
use Rattle.laws.specs.Prelude.{ℕ, get_or}
use Rattle.cells.proofs.bound.some_at_least.Given as goal

abbrev pub invariant-loop-cell : goal.invariant-loop-cell
invariant-loop-cell l = (l.least ≡ l.bound) × (l.found ≡ 0 → (p : ℕ) → p < l.cell-index → get_or l.cells p 0 < l.bound)
