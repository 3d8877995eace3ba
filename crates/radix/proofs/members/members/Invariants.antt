-- `radix::members::members` meets its contract. The loop's invariant: the members so far, plus those among the inputs that are
-- left, are all members. Assumes nothing.
use Rattle.std.specs.Prelude.{◌≤◌, ◌+◌, ◌-◌, ◌≡◌}
use Rattle.rules.specs.Groups.Groups.{size}
use Rattle.radix.proofs.members.members.Given as goal

abbrev pub invariant-loop-i : goal.invariant-loop-i
invariant-loop-i l = (l.count ≤ l._i) × (l.count + size (l.n - l._i) l.rest ≡ size l.n l.g)
