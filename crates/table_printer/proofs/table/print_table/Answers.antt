-- `table_printer::table::print_table` meets its contract: after each call, what is left to write.
-- Assumes nothing.
use Rattle.std.specs.Prelude.{◌∷◌, ◌++◌}
use Rattle.laws.specs.Prelude.{ℕ, List, [], arith}
use Rattle.rules.specs.Text.{space, newline, text, decimal}
use Rattle.rules.specs.Sheets.Printed.{line, printed_rows, printed_table}
use Rattle.nets.specs.Forms.{name_in, table_in}
use Rattle.net_sheets.specs.Text.Put.{NetLeft, parts_left, put_left, room_for, last_put, put_wrote}
use Rattle.net_sheets.specs.Text.Lines.{spaced_from}
use Rattle.table_printer.specs.Rows.Parts.{table_parts}
use Rattle.table_printer.proofs.table.print_table.Goals as goal

abbrev ink : List ℕ
ink = line (text "ink" ∷ [])

pub print_pair-p-requires : goal.print_pair-p-requires
unfolding line text space newline
print_pair-p-requires c =
    let first_two_of : List ℕ = line (text "levels" ∷ text "inputs" ∷ []) ++ line (decimal c.args.h.levels ∷ decimal c.args.h.inputs ∷ []) in
    let names : List ℕ = spaced_from (name_in c.args.s.now c.args.h) 0 c.args.h.inputs in
    let rows : List ℕ = printed_rows c.args.h.levels c.args.h.inputs 0 c.args.inks.now in
    let Rest : List ℕ → ℕ → List ℕ → Type 0 = λ out at t. NetLeft out at t c.args.out.now 0 (printed_table (table_in c.args.s.now c.args.h c.args.inks.now)) in
    let start : Rest c.args.out.now 0 (first_two_of ++ (names ++ (ink ++ rows))) = parts_left (table_parts c.args.s.now c.args.h c.args.inks.now) (omega (arith, c.requires.1)) in
    room_for first_two_of (names ++ (ink ++ rows)) start

pub print_names-p-requires : goal.print_names-p-requires
unfolding line text space newline
print_names-p-requires c =
    let Rest : List ℕ → ℕ → List ℕ → Type 0 = λ out at t. NetLeft out at t c.args.out.now 0 (printed_table (table_in c.args.s.now c.args.h c.args.inks.now)) in
    let names : List ℕ = spaced_from (name_in c.args.s.now c.args.h) 0 c.args.h.inputs in
    let rows : List ℕ = printed_rows c.args.h.levels c.args.h.inputs 0 c.args.inks.now in
    let first_two_of : List ℕ = line (text "levels" ∷ text "inputs" ∷ []) ++ line (decimal c.args.h.levels ∷ decimal c.args.h.inputs ∷ []) in
    let start : Rest c.args.out.now 0 (first_two_of ++ (names ++ (ink ++ rows))) = parts_left (table_parts c.args.s.now c.args.h c.args.inks.now) (omega (arith, c.requires.1)) in
    let after_pair : Rest c.print_pair-p.new.out c.print_pair-p.result (names ++ (ink ++ rows)) = put_left start c.print_pair-p.ensures in (
      c.requires.0.names,
      omega arith,
      room_for names (ink ++ rows) after_pair,
    )

pub copy-p-requires : goal.copy-p-requires
unfolding line text space newline
copy-p-requires c =
    let Rest : List ℕ → ℕ → List ℕ → Type 0 = λ out at t. NetLeft out at t c.args.out.now 0 (printed_table (table_in c.args.s.now c.args.h c.args.inks.now)) in
    let names : List ℕ = spaced_from (name_in c.args.s.now c.args.h) 0 c.args.h.inputs in
    let rows : List ℕ = printed_rows c.args.h.levels c.args.h.inputs 0 c.args.inks.now in
    let first_two_of : List ℕ = line (text "levels" ∷ text "inputs" ∷ []) ++ line (decimal c.args.h.levels ∷ decimal c.args.h.inputs ∷ []) in
    let start : Rest c.args.out.now 0 (first_two_of ++ (names ++ (ink ++ rows))) = parts_left (table_parts c.args.s.now c.args.h c.args.inks.now) (omega (arith, c.requires.1)) in
    let after_pair : Rest c.print_pair-p.new.out c.print_pair-p.result (names ++ (ink ++ rows)) = put_left start c.print_pair-p.ensures in
    let after_names : Rest c.print_names-p.new.out c.print_names-p.result (ink ++ rows) = put_left after_pair c.print_names-p.ensures in
    room_for ink rows after_names

pub print_rows-requires : goal.print_rows-requires
unfolding line text space newline
print_rows-requires c =
    let Rest : List ℕ → ℕ → List ℕ → Type 0 = λ out at t. NetLeft out at t c.args.out.now 0 (printed_table (table_in c.args.s.now c.args.h c.args.inks.now)) in
    let names : List ℕ = spaced_from (name_in c.args.s.now c.args.h) 0 c.args.h.inputs in
    let rows : List ℕ = printed_rows c.args.h.levels c.args.h.inputs 0 c.args.inks.now in
    let first_two_of : List ℕ = line (text "levels" ∷ text "inputs" ∷ []) ++ line (decimal c.args.h.levels ∷ decimal c.args.h.inputs ∷ []) in
    let start : Rest c.args.out.now 0 (first_two_of ++ (names ++ (ink ++ rows))) = parts_left (table_parts c.args.s.now c.args.h c.args.inks.now) (omega (arith, c.requires.1)) in
    let after_pair : Rest c.print_pair-p.new.out c.print_pair-p.result (names ++ (ink ++ rows)) = put_left start c.print_pair-p.ensures in
    let after_names : Rest c.print_names-p.new.out c.print_names-p.result (ink ++ rows) = put_left after_pair c.print_names-p.ensures in
    let after_ink : Rest c.copy-p.new.out c.copy-p.result rows = put_left after_names c.copy-p.ensures in
    let inside = c.requires.0 in
    (inside.some_levels, inside.levels, inside.names.count, inside.digits, after_ink.room)

pub returns : goal.returns
unfolding line text space newline
returns c =
    let Rest : List ℕ → ℕ → List ℕ → Type 0 = λ out at t. NetLeft out at t c.args.out.now 0 (printed_table (table_in c.args.s.now c.args.h c.args.inks.now)) in
    let names : List ℕ = spaced_from (name_in c.args.s.now c.args.h) 0 c.args.h.inputs in
    let rows : List ℕ = printed_rows c.args.h.levels c.args.h.inputs 0 c.args.inks.now in
    let first_two_of : List ℕ = line (text "levels" ∷ text "inputs" ∷ []) ++ line (decimal c.args.h.levels ∷ decimal c.args.h.inputs ∷ []) in
    let start : Rest c.args.out.now 0 (first_two_of ++ (names ++ (ink ++ rows))) = parts_left (table_parts c.args.s.now c.args.h c.args.inks.now) (omega (arith, c.requires.1)) in
    let after_pair : Rest c.print_pair-p.new.out c.print_pair-p.result (names ++ (ink ++ rows)) = put_left start c.print_pair-p.ensures in
    let after_names : Rest c.print_names-p.new.out c.print_names-p.result (ink ++ rows) = put_left after_pair c.print_names-p.ensures in
    let after_ink : Rest c.copy-p.new.out c.copy-p.result rows = put_left after_names c.copy-p.ensures in
    put_wrote c.requires.1
    (last_put after_ink c.print_rows.ensures)
