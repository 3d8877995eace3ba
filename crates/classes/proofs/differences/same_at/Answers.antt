-- `classes::differences::same_at` meets its contract. Assumes nothing.
use Rattle.laws.specs.Prelude.{refl}
use Rattle.rules.specs.Groups.Differences.{differ_at}
use Rattle.classes.proofs.differences.same_at.Goals as goal

pub returns : goal.returns
unfolding differ_at
returns c = refl
