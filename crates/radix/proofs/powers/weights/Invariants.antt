-- `radix::powers::weights` meets its contract. The loop's invariant: the inputs from `i` on have their weights, and `w` is the next. Assumes
-- nothing.
use Rattle.std.specs.Prelude.{◌<◌, ◌≤◌, ◌-◌, ◌^◌, ◌≡◌}
use Rattle.laws.specs.Prelude.{ℕ}
use Rattle.laws.specs.Prelude.{get_or}
use Rattle.radix.proofs.powers.weights.Given as goal

abbrev pub invariant-loop-i : goal.invariant-loop-i
invariant-loop-i l = (l.w ≡ l.m ^ (l.n - l.i)) × ((j : ℕ) → l.i ≤ j → j < l.n → get_or l.out j 0 ≡ l.m ^ (l.n - 1 - j))
