-- `capi::job_finish::sitgurp_job_finish_parts` meets its contract: it finishes the job, its answer as two numbers. Assumes nothing.
use Rattle.capi.specs.Made.{flat_made}
use Rattle.capi.proofs.job_finish.sitgurp_job_finish_parts.Goals as goal

pub returns : goal.returns
returns c = λ own_marks. flat_made (c.finish_in.ensures own_marks) c.from.ensures
