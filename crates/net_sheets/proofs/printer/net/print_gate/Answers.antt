-- `net_sheets::printer::net::print_gate` meets its contract: after each call, what is left to write.
-- Assumes nothing.
use Rattle.std.specs.Prelude.{◌<◌, ◌∷◌, ◌++◌}
use Rattle.laws.specs.Prelude.{ℕ, List, [], map, length}
use Rattle.rules.specs.Text.{space, newline, digit_byte}
use Rattle.rules.specs.Sheets.Printed.{printed_gate}
use Rattle.nets.specs.declared.forms.Header.{Header}
use Rattle.net_sheets.specs.Text.Put.{Put, PutRoom, NetLeft, parts_left, put_left, room_for, room_byte, last_put}
use Rattle.net_sheets.specs.Printer.Gates.{reference_in, printed_parts}
use Rattle.net_sheets.specs.Text.Lines.{line_three}
use Rattle.net_sheets.proofs.printer.net.print_gate.Goals as goal

module _ (s : List ℕ) (h : Header) (left right : ℕ) (digits out : List ℕ) (at : ℕ) (room : PutRoom out at (printed_parts s h left right digits)) where
  abbrev wire : ℕ → List ℕ
  wire r = reference_in s h r ++ (space ∷ [])

  abbrev Rest : List ℕ → ℕ → List ℕ → Type 0
  Rest now p t = NetLeft now p t out at (printed_parts s h left right digits)

  start : Rest out at (wire left ++ (wire right ++ (map digit_byte digits ++ (newline ∷ []))))
  unfolding printed_gate
  start = parts_left (line_three _ _ _) room

  left_room : PutRoom out at (wire left)
  left_room = room_for (wire left) _ start

  module _ {a : List ℕ} {p : ℕ} (first : Put out at (wire left) a p) where
    after_left : Rest a p (wire right ++ (map digit_byte digits ++ (newline ∷ [])))
    after_left = put_left start first

    right_room : PutRoom a p (wire right)
    right_room = room_for (wire right) _ after_left

    module _ {b : List ℕ} {q : ℕ} (second : Put a p (wire right) b q) where
      after_right : Rest b q (map digit_byte digits ++ (newline ∷ []))
      after_right = put_left after_left second

      digits_room : PutRoom b q (map digit_byte digits)
      digits_room = room_for (map digit_byte digits) _ after_right

      module _ {d : List ℕ} {r : ℕ} (third : Put b q (map digit_byte digits) d r) where
        after_digits : Rest d r (newline ∷ [])
        after_digits = put_left after_right third

        end_room : r < length d
        end_room = room_byte after_digits

pub print_wire-p-requires : goal.print_wire-p-requires
print_wire-p-requires c = (c.requires.0, left_room _ c.args.h c.args.left c.args.right _ _ _ c.requires.2)

pub print_wire-p-requires-2 : goal.print_wire-p-requires-2
print_wire-p-requires-2 c = (c.requires.0, right_room _ c.args.h c.args.left c.args.right _ _ _ c.requires.2 c.print_wire-p.ensures)

pub print_digits-p-requires : goal.print_digits-p-requires
print_digits-p-requires c =
    (digits_room _ c.args.h c.args.left c.args.right _ _ _ c.requires.2 c.print_wire-p.ensures c.print_wire-p-2.ensures, c.requires.1)

pub put-requires : goal.put-requires
put-requires c =
    end_room _ c.args.h c.args.left c.args.right _ _ _ c.requires.2 c.print_wire-p.ensures c.print_wire-p-2.ensures c.print_digits-p.ensures

pub returns : goal.returns
unfolding newline
returns c =
    last_put
    (after_digits _ c.args.h c.args.left c.args.right _ _ _ c.requires.2 c.print_wire-p.ensures c.print_wire-p-2.ensures c.print_digits-p.ensures)
    c.put.ensures
