-- `jobs::opening::own_cells` meets its contract. Assumes nothing.
use Rattle.net_sheets.specs.Text.Put.{put_wrote}
use Rattle.jobs.specs.Opening.{cells_of}
use Rattle.jobs.proofs.opening.own_cells.Goals as goal

pub returns : goal.returns
unfolding cells_of
returns c = (put_wrote c.requires c.copy.ensures).text
