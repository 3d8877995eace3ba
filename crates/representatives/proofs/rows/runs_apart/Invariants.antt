-- `representatives::rows::runs_apart` meets its contract. Loop invariant: the cells are the same in the runs of the heads so far. Assumes nothing.
use Rattle.rules.specs.Calls.Answers.{ink_in}
use Rattle.representatives.specs.Columns.{SameHeads}
use Rattle.representatives.proofs.rows.runs_apart.Given as goal

abbrev pub invariant-loop-head : goal.invariant-loop-head
invariant-loop-head l = SameHeads (ink_in l.cells) l.run l.heads l.p l.q l.head-index
