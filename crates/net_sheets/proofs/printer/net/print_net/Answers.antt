-- `net_sheets::printer::net::print_net` meets its contract: after each call, what is left to write.
-- Assumes nothing.
use Rattle.std.specs.Prelude.{◌≤◌, ◌∷◌, ◌++◌}
use Rattle.laws.specs.Prelude.{ℕ, List, [], arith, length}
use Rattle.rules.specs.Text.{space, newline, text, decimal}
use Rattle.rules.specs.Sheets.Printed.{line, printed_net}
use Rattle.nets.specs.declared.forms.Header.{Header}
use Rattle.nets.specs.declared.forms.Net.{Net}
use Rattle.nets.specs.Forms.{names_in, net_in}
use Rattle.net_sheets.specs.Text.Put.{Put, PutRoom, NetLeft, parts_left, put_left, room_for, last_put, put_wrote}
use Rattle.net_sheets.specs.Printer.Gates.{printed_gates, net_parts}
use Rattle.net_sheets.proofs.printer.net.print_net.Goals as goal

abbrev first_two : Header → List ℕ
first_two h = line (text "levels" ∷ text "inputs" ∷ []) ++ line (decimal h.levels ∷ decimal h.inputs ∷ [])

abbrev fourth : List ℕ
fourth = line (text "left" ∷ text "right" ∷ text "table" ∷ [])

module _ (s : List ℕ) (h : Header) (net : Net) (out : List ℕ) (fits : length (printed_net (net_in s h net)) ≤ length out) where
  abbrev Rest : List ℕ → ℕ → List ℕ → Type 0
  Rest now p t = NetLeft now p t out 0 (printed_net (net_in s h net))

  start : Rest out 0 (first_two h ++ (line (names_in s h) ++ (fourth ++ printed_gates s h net)))
  start = parts_left (net_parts s h net) (omega (arith, fits))

  pair_room : PutRoom out 0 (first_two h)
  pair_room = room_for (first_two h) _ start

  module _ {a : List ℕ} {p : ℕ} (pair : Put out 0 (first_two h) a p) where
    after_pair : Rest a p (line (names_in s h) ++ (fourth ++ printed_gates s h net))
    after_pair = put_left start pair

    names_room : PutRoom a p (line (names_in s h))
    names_room = room_for (line (names_in s h)) _ after_pair

    module _ {b : List ℕ} {q : ℕ} (names : Put a p (line (names_in s h)) b q) where
      after_names : Rest b q (fourth ++ printed_gates s h net)
      after_names = put_left after_pair names

      fourth_room : PutRoom b q fourth
      fourth_room = room_for fourth _ after_names

      module _ {d : List ℕ} {r : ℕ} (heading : Put b q fourth d r) where
        after_fourth : Rest d r (printed_gates s h net)
        after_fourth = put_left after_names heading

pub print_pair-p-requires : goal.print_pair-p-requires
unfolding line text space newline
print_pair-p-requires c = pair_room c.args.s.now c.args.h c.args.net c.args.out.now c.requires.2

pub print_names_line-p-requires : goal.print_names_line-p-requires
unfolding line text space newline
print_names_line-p-requires c =
    (c.requires.0, names_room c.args.s.now c.args.h c.args.net c.args.out.now c.requires.2 c.print_pair-p.ensures)

pub copy-p-requires : goal.copy-p-requires
unfolding line text space newline
copy-p-requires c =
    fourth_room c.args.s.now c.args.h c.args.net c.args.out.now c.requires.2 c.print_pair-p.ensures c.print_names_line-p.ensures

pub print_gates-requires : goal.print_gates-requires
unfolding line text space newline
print_gates-requires c =
    let a = c.args in
    let gates = after_fourth a.s.now a.h a.net a.out.now c.requires.2 c.print_pair-p.ensures c.print_names_line-p.ensures c.copy-p.ensures in
    (c.requires.0, c.requires.1, gates.room)

pub returns : goal.returns
unfolding line text space newline
returns c =
    let a = c.args in
    let gates = after_fourth a.s.now a.h a.net a.out.now c.requires.2 c.print_pair-p.ensures c.print_names_line-p.ensures c.copy-p.ensures in
    put_wrote c.requires.2 (last_put gates c.print_gates.ensures)
