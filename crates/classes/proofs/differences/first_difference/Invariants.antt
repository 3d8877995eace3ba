-- `classes::differences::first_difference` meets its contract. The loop begins where the inks are no longer known to be the same. Its invariant: the
-- remaining places decide. Assumes nothing.
use Rattle.std.specs.Prelude.{◌-◌, ◌≡◌}
use Rattle.laws.specs.Prelude.{length}
use Rattle.rules.specs.Calls.Answers.{ink_in}
use Rattle.rules.specs.Groups.Differences.{differ_at, difference_over}
use Rattle.rules.specs.Lists.{range, find}
use Rattle.classes.proofs.differences.first_difference.Given as goal

abbrev pub invariant-loop-k : goal.invariant-loop-k
invariant-loop-k l = find (differ_at (ink_in l.cells) l.ys l.p l.q) (range l.k (length l.ys - l.k)) ≡ difference_over (ink_in l.cells) l.ys l.p l.q
