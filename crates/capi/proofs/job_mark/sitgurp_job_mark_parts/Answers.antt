-- `capi::job_mark::sitgurp_job_mark_parts` meets its contract: it is the job's answer as a kind and a number. Assumes nothing.
use Rattle.laws.specs.Prelude.{◌∙◌, ap}
use Rattle.capi.specs.Numbers.Reached.{flat_reached}
use Rattle.capi.proofs.job_mark.sitgurp_job_mark_parts.Goals as goal

pub returns : goal.returns
returns c = λ cells. c.from.ensures ∙ ap flat_reached (c.mark_in.ensures cells)
