-- `classes::alike::class_of` meets its contract. The loop's invariant: none of the first j is alike. Assumes nothing.
use Rattle.std.specs.Prelude.{◌<◌, ◌≡◌}
use Rattle.laws.specs.Prelude.{ℕ, false, get_or}
use Rattle.rules.specs.Calls.Answers.{ink_in}
use Rattle.rules.specs.Groups.Groups.{alike_over}
use Rattle.classes.proofs.alike.class_of.Given as goal

abbrev pub invariant-loop-j : goal.invariant-loop-j
invariant-loop-j l = (i : ℕ) → i < l.j → alike_over (ink_in l.cells) l.ys l.p (get_or l.first-items i 0) ≡ false
