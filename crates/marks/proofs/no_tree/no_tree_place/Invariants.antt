-- `marks::no_tree::no_tree_place` meets its contract. The loop's invariant: the search from the current size on gives the same
-- result. Assumes nothing.
use Rattle.std.specs.Prelude.{◌≡◌}
use Rattle.marks.specs.NoTreePlace.{place_from}
use Rattle.marks.proofs.no_tree.no_tree_place.Given as goal

abbrev pub invariant-loop-k : goal.invariant-loop-k
invariant-loop-k l = place_from l.n l.marks l.k ≡ place_from l.n l.marks 0
