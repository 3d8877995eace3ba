-- `programs::input::first_read` meets its contract. Assumes nothing.
use Rattle.programs.proofs.input.first_read.Goals as goal

pub returns : goal.returns
returns c = c.front.ensures
