-- `evaluation::lists::join::join` meets its contract. The loop's invariant: the entries for the first i of the outer list are written. Assumes nothing.
use Rattle.std.specs.Prelude.{◌+◌, ◌*◌, ◌≡◌}
use Rattle.evaluation.specs.Lists.Pairs.{PairsJoined}
use Rattle.evaluation.proofs.lists.join.join.Given as goal

abbrev pub invariant-loop-i : goal.invariant-loop-i
invariant-loop-i l = (l.at ≡ l.to + l.i * l.order.inner.count) × PairsJoined l.order l.digits l.from l.to l.initial.lists l.i l.lists
