-- `evaluation::lists::join::join_row` meets its contract. The loop's invariant: the first j entries are written. Assumes nothing.
use Rattle.evaluation.specs.Lists.Runs.{Run}
use Rattle.evaluation.specs.Lists.Pairs.{row_entry}
use Rattle.evaluation.proofs.lists.join.join_row.Given as goal

abbrev pub invariant-loop-j : goal.invariant-loop-j
invariant-loop-j l = Run l.to l.j (row_entry l.inner l.digits l.row l.step l.place l.initial.lists) l.initial.lists l.lists
