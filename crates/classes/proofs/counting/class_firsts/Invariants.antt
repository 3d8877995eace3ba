-- `classes::counting::class_firsts` meets its contract. The loop's invariant: what is kept and the assignments not yet visited give the classes of
-- all; each that is kept is in the chain of its key.
-- Assumes nothing.
use Rattle.laws.specs.Prelude.{length}
use Rattle.rules.specs.Calls.Answers.{ink_in}
use Rattle.classes.specs.Counting.{FirstsFound}
use Rattle.classes.proofs.KeptChains.{Chained}
use Rattle.classes.proofs.counting.class_firsts.Given as goal

abbrev pub invariant-loop-i : goal.invariant-loop-i
invariant-loop-i l =
    FirstsFound (ink_in l.cells) (length l.cells) l.ys l.xs l.enough l.firsts l.count l.i × Chained l.m (ink_in l.cells) l.ys l.width l.firsts l.links l.heads l.count
