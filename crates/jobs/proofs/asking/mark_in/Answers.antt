-- `jobs::asking::mark_in` meets its contract: the job's lines are read, or there is no table. Assumes nothing.
use Rattle.rules.specs.Text.{space}
use Rattle.jobs.specs.Forms.{fronted, not_fronted}
use Rattle.jobs.specs.Asking.{ask_none}
use Rattle.jobs.proofs.asking.mark_in.Goals as goal

pub mark_under-requires : goal.mark_under-requires
unfolding space
mark_under-requires c = (fronted _ _ c.header_lines.ensures _ c.in-Ok.is, c.requires)

pub returns-in-Err : goal.returns-in-Err
unfolding space
returns-in-Err c = λ cells. ask_none _ _ _ _ (not_fronted _ _ c.header_lines.ensures _ c.in-Err.is) cells
