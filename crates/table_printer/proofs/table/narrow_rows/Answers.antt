-- `table_printer::table::narrow_rows` meets its contract. The loop's invariant: `levels` begins with the levels of index k, and the rows
-- from k on are left to write at p.
-- Assumes nothing.
use Rattle.std.specs.Prelude.{◌<◌, ◌≤◌, ◌+◌, ◌≡◌, ◌++◌}
use Rattle.laws.specs.Prelude.{ℕ, ◌∙◌, ap, refl, List, arith, length, get_or, take, drop, length-take}
use Rattle.rules.specs.Limits.{most_levels, most_inputs}
use Rattle.rules.specs.Sheets.Sheets.{levels_at, ink_byte}
use Rattle.rules.specs.Sheets.Printed.{printed_rows}
use Rattle.laws.specs.Numbers.Levels.{zeros_front, levels_length, levels_below, front_next, front_kept}
use Rattle.net_sheets.specs.Text.Put.{PutRoom, NetLeft, all_left, put_left, room_for, none_left}
use Rattle.table_printer.specs.Rows.Rows.{row_text, printed_rows_next, rows_end}
use Rattle.table_printer.proofs.table.narrow_rows.Goals as goal

-- the front of the levels, as passed to `print_row`
module _ (m n k : ℕ) (levels : List ℕ) (front : take n levels ≡ levels_at m n k) where
  digits : 0 < m → m ≤ most_levels → (i : ℕ) → i < length (take n levels) → get_or (take n levels) i 0 < 10
  digits pos few i h = rw front (omega (arith, levels_below m n k i pos (omega (arith, levels_length m n k, ap length front))))

  -- the row of index k, by the byte b that `ink_byte` returned
  module _ (inks : List ℕ) (h : k < length inks) {b : ℕ} (byte : b ≡ ink_byte m (get_or inks k 0))
      {out : List ℕ} {p : ℕ} {out₀ : List ℕ} {at : ℕ} {t : List ℕ} (l : NetLeft out p (printed_rows m n k (drop k inks)) out₀ at t) where
    first_row : NetLeft out p (row_text (take n levels) b ++ printed_rows m n (k + 1) (drop (k + 1) inks)) out₀ at t
    first_row = rw (front, byte) (rw (printed_rows_next m n k inks h) at l)

    row_room : PutRoom out p (row_text (take n levels) b)
    row_room = room_for (row_text (take n levels) b) (printed_rows m n (k + 1) (drop (k + 1) inks)) first_row

pub loop-ink-init : goal.loop-ink-init
loop-ink-init c = (refl, zeros_front c.args.m c.args.n most_inputs (omega arith), all_left c.requires.4)

pub ink_byte-requires : goal.ink_byte-requires
ink_byte-requires c = c.requires.3 c.loop-ink.ink-index c.loop-ink-test.true

pub slice_bounds-print_row-end : goal.slice_bounds-print_row-end
slice_bounds-print_row-end c = omega (arith, c.requires.2, c.loop-ink.invariant.0, length-take c.args.n c.loop-ink.levels)

pub print_row-p-requires : goal.print_row-p-requires
print_row-p-requires c =
    let at = c.loop-ink in
    let more = c.loop-ink-test.true in (
      digits c.args.m c.args.n at.ink-index at.levels at.invariant.1 c.requires.0 c.requires.1,
      row_room c.args.m c.args.n at.ink-index at.levels at.invariant.1 c.args.inks.now more c.ink_byte.ensures
          at.invariant.2,
    )

pub next_levels-requires : goal.next_levels-requires
next_levels-requires c =
    (omega (arith, c.requires.1), omega (arith, c.requires.2, c.loop-ink.invariant.0))

pub loop-ink-preserved : goal.loop-ink-preserved
loop-ink-preserved c =
    let at = c.loop-ink in
    let did = c.next_levels.ensures in
    let front = at.invariant.1 in (
      front_kept c.args.m c.args.n at.ink-index c.requires.0 _ _ front did (omega (arith, c.requires.2, at.invariant.0)) ∙ at.invariant.0,
      front_next c.args.m c.args.n at.ink-index c.requires.0 _ _ front did,
      put_left (first_row c.args.m c.args.n at.ink-index at.levels front c.args.inks.now c.loop-ink-test.true
          c.ink_byte.ensures at.invariant.2) c.print_row-p.ensures,
    )

pub returns : goal.returns
returns c = none_left (rw (rows_end c.args.m c.args.n c.loop-ink.ink-index
    c.args.inks.now c.loop-ink-test.false) at c.loop-ink.invariant.2)
