-- `jobs::opening::new_job` meets its contract, part by part. Assumes nothing.
use Rattle.jobs.specs.Opening.{own_lines, own_room, new_bytes_lem}
use Rattle.jobs.proofs.opening.new_job.Goals as goal

pub returns : goal.returns
returns c = new_bytes_lem _ _ _ _ _ c.own_lines.ensures c.own_cells.ensures

pub own_lines-requires : goal.own_lines-requires
own_lines-requires c = own_lines _ _ _ c.requires

pub own_cells-requires : goal.own_cells-requires
own_cells-requires c = own_room _ _ _ c.requires
