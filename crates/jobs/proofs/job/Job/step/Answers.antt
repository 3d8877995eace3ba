-- `jobs::job::Job::step` meets its contract: the job unchanged, or with the next group's mark. Assumes nothing.
use Rattle.laws.specs.Prelude.{subst}
use Rattle.jobs.specs.Forms.{job_in, job_of}
use Rattle.jobs.specs.Stepping.{NextMark}
use Rattle.jobs.specs.Calls.{stepped_done, stepped_on}
use Rattle.jobs.proofs.job.Job.step.Goals as goal

pub marked-requires : goal.marked-requires
unfolding job_in
marked-requires c = (subst (NextMark (job_of c.args.self)) c.in-Some.is c.next_mark.ensures).1

pub returns-in-None : goal.returns-in-None
returns-in-None c =
    let self = c.args.self in
    stepped_done self (subst (NextMark (job_of self)) c.in-None.is c.next_mark.ensures)

pub returns-in-Some : goal.returns-in-Some
returns-in-Some c =
    let self = c.args.self in
    stepped_on self _ (subst (NextMark (job_of self)) c.in-Some.is c.next_mark.ensures) _ c.marked.ensures
