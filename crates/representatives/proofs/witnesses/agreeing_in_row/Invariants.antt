-- `representatives::witnesses::agreeing_in_row` meets its contract. Loop invariant: columns distinguish the row from those so far. Assumes nothing.
use Rattle.rules.specs.Calls.Answers.{ink_in}
use Rattle.representatives.specs.Columns.{columns_of}
use Rattle.representatives.specs.Witnesses.{ToldRow}
use Rattle.representatives.proofs.witnesses.agreeing_in_row.Given as goal

abbrev pub invariant-loop-q : goal.invariant-loop-q
invariant-loop-q l = ToldRow l.m l.n (ink_in l.cells) (columns_of l.run l.heads) l.base l.p l.firsts l.q-index l.s l.rest
