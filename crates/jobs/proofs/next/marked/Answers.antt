-- `jobs::next::marked` meets its contract. Assumes nothing.
use Rattle.laws.specs.Prelude.{refl}
use Rattle.jobs.specs.Stepping.{with_mark}
use Rattle.jobs.proofs.next.marked.Goals as goal

pub returns : goal.returns
unfolding with_mark
returns c = refl
