-- `net_sheets::text::header::print_names_line` meets its contract: after all names but the last, the last is left to write.
-- Assumes nothing.
use Rattle.std.specs.Prelude.{◌-◌, ◌∷◌, ◌++◌}
use Rattle.laws.specs.Prelude.{ℕ, List, [], arith}
use Rattle.rules.specs.Text.{newline}
use Rattle.rules.specs.Sheets.Printed.{line}
use Rattle.nets.specs.declared.forms.Header.{Header}
use Rattle.nets.specs.Forms.{name_in, names_in}
use Rattle.net_sheets.specs.Text.Put.{NetLeft, PutRoom, parts_left, put_left, room_for, last_put}
use Rattle.net_sheets.specs.Text.Lines.{spaced_from}
use Rattle.net_sheets.specs.Text.Names.{NamesInside, names_line}
use Rattle.net_sheets.proofs.text.header.print_names_line.Goals as goal

module _ (s : List ℕ) (h : Header) (out : List ℕ) (at : ℕ) (names : NamesInside s h) (room : PutRoom out at (line (names_in s h))) where
  abbrev last : ℕ
  last = h.inputs - 1

  start : NetLeft out at (spaced_from (name_in s h) 0 last ++ (name_in s h last ++ (newline ∷ []))) out at (line (names_in s h))
  start = parts_left (names_line s h names.some) room

  names_room : PutRoom out at (spaced_from (name_in s h) 0 last)
  names_room = room_for (spaced_from (name_in s h) 0 last) _ start

pub print_names-p-requires : goal.print_names-p-requires
print_names-p-requires c = (c.requires.0, omega arith, names_room _ c.args.h _ _ c.requires.0 c.requires.1)

pub print_name-requires : goal.print_name-requires
unfolding newline
print_name-requires c =
    (c.requires.0, omega (arith, c.requires.0.some), (put_left (start _ c.args.h _ _ c.requires.0 c.requires.1) c.print_names-p.ensures).room)

pub returns : goal.returns
unfolding newline
returns c = last_put (put_left (start _ c.args.h _ _ c.requires.0 c.requires.1) c.print_names-p.ensures) c.print_name.ensures
