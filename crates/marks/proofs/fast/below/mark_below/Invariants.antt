-- `marks::fast::below::mark_below` meets its contract. The loop's invariant: the groups below `g` are marked and known. Assumes nothing.
use Rattle.std.specs.Prelude.{◌≤◌, ◌-◌}
use Rattle.rules.specs.Calls.Answers.{ink_in}
use Rattle.marks.proofs.Passing.{Passed}
use Rattle.marks.proofs.fast.below.mark_below.Given as goal

abbrev pub invariant-loop-g : goal.invariant-loop-g
invariant-loop-g l = Passed l.m l.n (ink_in l.cells) l.initial.marks l.counts l.kept l.marks l.idle l.past l.g × (l.g ≤ l.end)

abbrev pub decreases-loop-g : goal.decreases-loop-g
decreases-loop-g l = l.end - l.g
