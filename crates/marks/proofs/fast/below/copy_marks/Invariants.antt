-- `marks::fast::below::copy_marks` meets its contract. The loop's invariant: `k` marks are copied; below `b` nothing changed. Assumes nothing.
use Rattle.representatives.specs.Copies.{Copied}
use Rattle.marks.proofs.fast.below.copy_marks.Given as goal

abbrev pub invariant-loop-k : goal.invariant-loop-k
invariant-loop-k l = Copied l.initial.marks l.a l.initial.marks l.b l.k l.marks
