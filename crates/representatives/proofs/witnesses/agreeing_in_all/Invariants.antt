-- `representatives::witnesses::agreeing_in_all` meets its contract. The loop's invariant: columns distinguish each row after row `k` from all rows
-- before it. Assumes nothing.
use Rattle.rules.specs.Calls.Answers.{ink_in}
use Rattle.representatives.specs.Columns.{columns_of}
use Rattle.representatives.specs.Witnesses.{ToldFrom}
use Rattle.representatives.proofs.witnesses.agreeing_in_all.Given as goal

abbrev pub invariant-loop-k : goal.invariant-loop-k
invariant-loop-k l = ToldFrom l.m l.n (ink_in l.cells) (columns_of l.run l.heads) l.firsts l.base l.k l.rest
