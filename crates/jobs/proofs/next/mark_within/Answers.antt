-- `jobs::next::mark_within` meets its contract: its arrays have room for the table. Assumes nothing.
use Rattle.laws.specs.Prelude.{arith}
use Rattle.jobs.specs.Stepping.{mark_room}
use Rattle.jobs.proofs.next.mark_within.Goals as goal

pub mark_group-requires : goal.mark_group-requires
mark_group-requires g c = mark_room _ _ _ _ _ c.requires.0 _ _ (omega (arith, c.requires.1)) (omega (arith, c.requires.1))
