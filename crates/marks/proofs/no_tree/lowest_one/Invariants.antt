-- `marks::no_tree::lowest_one` meets its contract. The loop's invariant: the search from the current group on gives the same result. Assumes nothing.
use Rattle.std.specs.Prelude.{◌≡◌}
use Rattle.marks.specs.NoTreePlace.{lowest}
use Rattle.marks.proofs.no_tree.lowest_one.Given as goal

abbrev pub invariant-loop-g : goal.invariant-loop-g
invariant-loop-g l = lowest l.n l.end l.marks l.k l.g ≡ lowest l.n l.end l.marks l.k 0
