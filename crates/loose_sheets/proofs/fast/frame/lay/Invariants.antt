-- `loose_sheets::fast::frame::lay` meets its contract. The loop's invariant: j places are laid out, with i levels, and the others have no weight.
-- Assumes nothing.
use Rattle.std.specs.Prelude.{◌-◌}
use Rattle.loose_sheets.specs.Fast.Frame.{most_laid}
use Rattle.loose_sheets.specs.Fast.Laying.{Laying}
use Rattle.loose_sheets.proofs.fast.frame.lay.Given as goal

abbrev pub invariant-loop-j : goal.invariant-loop-j
invariant-loop-j l = Laying l.m l.n l.frame l.i l.j

abbrev pub decreases-loop-j : goal.decreases-loop-j
decreases-loop-j l = most_laid - l.j
