-- `jobs::job::Job::mark` meets its contract: it returns the answer of `mark_in` for its parts. Assumes nothing.
use Rattle.laws.specs.Prelude.{refl}
use Rattle.jobs.proofs.job.Job.mark.Goals as goal

pub returns : goal.returns
returns c = record { same = refl; answer = c.mark_in.ensures c.args.self.cells }
