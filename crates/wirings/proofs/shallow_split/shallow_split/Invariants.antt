-- `wirings::shallow_split::shallow_split` meets its contract. The loop's invariant: the search from the current part on gives the same result.
-- Assumes nothing.
use Rattle.std.specs.Prelude.{◌-◌}
use Rattle.marks.specs.Searching.{Sought}
use Rattle.wirings.proofs.ShallowKeeping.{shallow_test}
use Rattle.wirings.proofs.shallow_split.shallow_split.Given as goal

abbrev pub invariant-loop-part : goal.invariant-loop-part
invariant-loop-part l = Sought (shallow_test l.marks l.g l.fewest) l.g l.rest l.part

abbrev pub decreases-loop-part : goal.decreases-loop-part
decreases-loop-part l = l.rest - l.part
