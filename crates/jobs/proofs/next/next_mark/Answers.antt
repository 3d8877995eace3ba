-- `jobs::next::next_mark` meets its contract: the job's lines are read, or there is no table. Assumes nothing.
use Rattle.rules.specs.Text.{space}
use Rattle.jobs.specs.Forms.{fronted, not_fronted}
use Rattle.jobs.specs.Stepping.{next_none}
use Rattle.jobs.proofs.next.next_mark.Goals as goal

pub next_under-requires : goal.next_under-requires
unfolding space
next_under-requires c = (fronted _ _ c.header_lines.ensures _ c.in-Ok.is, c.requires.0, c.requires.1)

pub returns-in-Err : goal.returns-in-Err
unfolding space
returns-in-Err c = next_none _ _ _ _ (not_fronted _ _ c.header_lines.ensures _ c.in-Err.is _)
