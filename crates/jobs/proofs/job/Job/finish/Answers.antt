-- `jobs::job::Job::finish` meets its contract: it finishes the job by its parts. Assumes nothing.
use Rattle.laws.specs.Prelude.{refl}
use Rattle.jobs.proofs.job.Job.finish.Goals as goal

pub returns : goal.returns
returns c =
    record { same = refl; made = c.finish_in.ensures c.args.self.marks }
