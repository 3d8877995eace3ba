-- `classes::differences::same_front` meets its contract. The loop's invariant: the inks are the same at every place so far. Assumes nothing.
use Rattle.std.specs.Prelude.{◌<◌, ◌*◌, ◌≡◌}
use Rattle.laws.specs.Prelude.{ℕ, false}
use Rattle.rules.specs.Calls.Answers.{ink_in}
use Rattle.rules.specs.Groups.Differences.{differ_at}
use Rattle.classes.proofs.differences.same_front.Given as goal

abbrev pub invariant-loop-i : goal.invariant-loop-i
invariant-loop-i l = (j : ℕ) → j < 4 * l.i → differ_at (ink_in l.cells) l.ys l.p l.q j ≡ false
