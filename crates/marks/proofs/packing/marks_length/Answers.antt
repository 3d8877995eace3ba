-- `marks::packing::marks_length` meets its contract: one byte for every four groups. Assumes nothing.
use Rattle.std.specs.Prelude.{◌/◌}
use Rattle.laws.specs.Prelude.{ℕ, ap}
use Rattle.rules.specs.Groups.Marks.{marks_length}
use Rattle.marks.proofs.packing.marks_length.Goals as goal

pub returns : goal.returns
unfolding marks_length
returns c = ap (λ (k : ℕ). k / 4) c.power.ensures
