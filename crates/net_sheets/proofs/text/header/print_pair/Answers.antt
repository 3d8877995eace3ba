-- `net_sheets::text::header::print_pair` meets its contract: after each call, what is left to write.
-- Assumes nothing.
use Rattle.std.specs.Prelude.{◌∷◌, ◌++◌}
use Rattle.laws.specs.Prelude.{ℕ, List, [], append_assoc}
use Rattle.rules.specs.Text.{space, newline, decimal}
use Rattle.rules.specs.Sheets.Printed.{line}
use Rattle.net_sheets.specs.Text.Put.{Put, PutRoom, NetLeft, parts_left, put_left, room_for, last_put}
use Rattle.net_sheets.proofs.text.header.print_pair.Goals as goal

module _ (head : List ℕ) (a b : ℕ) (out : List ℕ) (at : ℕ) (room : PutRoom out at (head ++ line (decimal a ∷ decimal b ∷ []))) where
  abbrev Rest : List ℕ → ℕ → List ℕ → Type 0
  Rest now p t = NetLeft now p t out at (head ++ line (decimal a ∷ decimal b ∷ []))

  abbrev first : List ℕ
  first = decimal a ++ (space ∷ [])

  abbrev second : List ℕ
  second = decimal b ++ (newline ∷ [])

  start : Rest out at (head ++ (first ++ second))
  unfolding line
  start = parts_left (rw append_assoc) room

  module _ {now : List ℕ} {p : ℕ} (copied : Put out at head now p) where
    after_head : Rest now p (first ++ second)
    after_head = put_left start copied

    first_room : PutRoom now p first
    first_room = room_for first second after_head

    module _ {next : List ℕ} {q : ℕ} (printed : Put now p first next q) where
      after_first : Rest next q second
      after_first = put_left after_head printed

pub print_decimal-p-requires : goal.print_decimal-p-requires
unfolding space
print_decimal-p-requires c = first_room _ c.args.a c.args.b _ _ c.requires c.copy-p.ensures

pub print_decimal-requires : goal.print_decimal-requires
unfolding space newline
print_decimal-requires c = (after_first _ c.args.a c.args.b _ _ c.requires c.copy-p.ensures c.print_decimal-p.ensures).room

pub returns : goal.returns
unfolding space newline
returns c = last_put (after_first _ c.args.a c.args.b _ _ c.requires c.copy-p.ensures c.print_decimal-p.ensures) c.print_decimal.ensures
