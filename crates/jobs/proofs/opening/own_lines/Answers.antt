-- `jobs::opening::own_lines` meets its contract: what remains to be written after each call. Assumes nothing.
use Rattle.laws.specs.Prelude.{arith}
use Rattle.rules.specs.Text.{space, newline, text}
use Rattle.rules.specs.Sheets.Printed.{line}
use Rattle.net_sheets.specs.Text.Put.{put_left, last_put, put_wrote}
use Rattle.jobs.specs.Opening.{lines_of, lines_left, first_two_room}
use Rattle.jobs.proofs.opening.own_lines.Goals as goal

pub print_pair-p-requires : goal.print_pair-p-requires
unfolding line text space newline
print_pair-p-requires c = first_two_room _ _ c.requires

pub print_names-requires : goal.print_names-requires
unfolding line text space newline
print_names-requires c = (c.requires.names, omega arith, (put_left (lines_left _ _ c.requires) c.print_pair-p.ensures).room)

pub returns : goal.returns
unfolding lines_of line text space newline
returns c = (put_wrote c.requires.room (last_put (put_left (lines_left _ _ c.requires) c.print_pair-p.ensures) c.print_names.ensures)).text
