-- `marks::split::split_of` meets its contract. The loop's invariant: the search from the current part on gives the same result.
-- Assumes nothing.
use Rattle.std.specs.Prelude.{◌-◌}
use Rattle.marks.specs.FirstParts.{settled_test}
use Rattle.marks.specs.Searching.{Sought}
use Rattle.marks.proofs.split.split_of.Given as goal

abbrev pub invariant-loop-part : goal.invariant-loop-part
invariant-loop-part l = Sought (settled_test l.marks l.g) l.g l.rest l.part

abbrev pub decreases-loop-part : goal.decreases-loop-part
decreases-loop-part l = l.rest - l.part
