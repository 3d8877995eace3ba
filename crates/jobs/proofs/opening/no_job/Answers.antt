-- `jobs::opening::no_job` meets its contract: zeros. Assumes nothing.
use mathlib.Core.Path.{refl}
use Rattle.jobs.specs.Opening.{no_bytes}
use Rattle.jobs.proofs.opening.no_job.Goals as goal

pub returns : goal.returns
unfolding no_bytes
returns c = refl
