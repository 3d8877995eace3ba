-- `classes::fast::fold::pair_inks` meets its contract. The loop's invariant: the first p numbers are written. Assumes nothing.
use Rattle.std.specs.Prelude.{◌<◌, ◌+◌, ◌*◌, ◌≡◌}
use Rattle.laws.specs.Prelude.{ℕ, get_or}
use Rattle.rules.specs.Calls.Answers.{ink_in}
use Rattle.classes.proofs.fast.fold.pair_inks.Given as goal

abbrev pub invariant-loop-p : goal.invariant-loop-p
invariant-loop-p l = (k : ℕ) → k < l.p → get_or l.to k 0 ≡ ink_in l.from (k + l.w) * l.base + ink_in l.from k
