-- `representatives::first_rows::row_firsts` meets its contract. The loop's invariant: what is kept and the remaining rows give the classes of all.
-- Assumes nothing.
use Rattle.std.specs.Prelude.{◌<◌, ◌≤◌, ◌+◌}
use Rattle.laws.specs.Prelude.{length}
use Rattle.rules.specs.Calls.Answers.{ink_in}
use Rattle.representatives.specs.Columns.{columns_of, Column}
use Rattle.classes.specs.Counting.{FirstsFound}
use Rattle.representatives.proofs.first_rows.row_firsts.Given as goal

abbrev pub invariant-loop-p : goal.invariant-loop-p
invariant-loop-p l =
    (0 < l.count) × Column (columns_of l.run l.heads) l.hint
    × FirstsFound (ink_in l.cells) (length l.cells) (columns_of l.run l.heads) l.xs (l.m + 1) l.firsts l.count (l.p-index + 1) × (l.count ≤ l.m)
