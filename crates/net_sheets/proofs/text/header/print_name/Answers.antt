-- `net_sheets::text::header::print_name` meets its contract: what is copied is the name, and then one byte is left to write.
-- Assumes nothing.
use Rattle.net_sheets.specs.Text.Put.{all_left, put_left, last_put}
use Rattle.net_sheets.proofs.text.header.print_name.Goals as goal

pub returns : goal.returns
returns c = last_put (put_left (all_left c.requires.2) (rw c.name_of.ensures at c.copy-p.ensures)) c.put.ensures
