-- `capi::job_open::sitgurp_job_open_parts` meets its contract: every part of the opened job. Assumes nothing.
use Rattle.capi.specs.JobOpen.{flat_opened}
use Rattle.capi.proofs.job_open.sitgurp_job_open_parts.Goals as goal

pub returns : goal.returns
returns c = flat_opened _ _ c.open-opened.ensures _ c.from.ensures
