-- `table_printer::table::wide_rows` meets its contract. The loop's invariant: `words` and `levels` spell the levels of index k, and the rows
-- from k on are left to write at p.
-- Assumes nothing.
use Rattle.std.specs.Prelude.{◌<◌, ◌≤◌, ◌+◌, ◌*◌, ◌≡◌, ◌++◌}
use Rattle.laws.specs.Prelude.{ℕ, ◌∙◌, sym, ap, refl, List, add-one, arith, length, get_or, drop}
use Rattle.rules.specs.Sheets.Sheets.{levels_at, ink_byte}
use Rattle.rules.specs.Sheets.Printed.{printed_rows}
use Rattle.laws.specs.Numbers.Levels.{levels_next, levels_length}
use Rattle.net_sheets.specs.Text.Put.{NetLeft, all_left, put_left, room_for, none_left}
use Rattle.table_printer.specs.Rows.Rows.{row_text, row_text_length, printed_rows_next, rows_end}
use Rattle.table_printer.specs.Rows.Next.{zeros_spell}
use Rattle.table_printer.proofs.table.wide_rows.Goals as goal

-- the row of index k, by the byte b that `ink_byte` returned
module _ (m n k : ℕ) (inks : List ℕ) (h : k < length inks) {b : ℕ} (byte : b ≡ ink_byte m (get_or inks k 0))
    {out : List ℕ} {p : ℕ} {out₀ : List ℕ} {at : ℕ} {t : List ℕ} (l : NetLeft out p (printed_rows m n k (drop k inks)) out₀ at t) where
  first_row : NetLeft out p (row_text (levels_at m n k) b ++ printed_rows m n (k + 1) (drop (k + 1) inks)) out₀ at t
  first_row = rw byte (rw (printed_rows_next m n k inks h) at l)

  row_room : p + (2 * n + 2) ≤ length out
  row_room =
      omega (
        arith,
        room_for (row_text (levels_at m n k) b) (printed_rows m n (k + 1) (drop (k + 1) inks)) first_row,
        row_text_length (levels_at m n k) b,
        levels_length m n k,
      )

pub loop-ink-init : goal.loop-ink-init
loop-ink-init c =
    (refl, zeros_spell c.args.m c.args.n c.requires.0 c.requires.2 c.requires.3, all_left c.requires.5)

pub ink_byte-requires : goal.ink_byte-requires
ink_byte-requires c = c.requires.4 c.loop-ink.ink-index c.loop-ink-test.true

pub wide_row-p-requires : goal.wide_row-p-requires
wide_row-p-requires c =
    let at = c.loop-ink in (
      c.requires.2,
      c.requires.3,
      row_room c.args.m c.args.n at.ink-index c.args.inks.now c.loop-ink-test.true
          c.ink_byte.ensures at.invariant.2,
    )

pub next_words-words-requires : goal.next_words-words-requires
next_words-words-requires c =
    (c.requires.0, c.requires.1, c.requires.2, c.requires.3, c.loop-ink.invariant.1.front.long)

pub loop-ink-preserved : goal.loop-ink-preserved
loop-ink-preserved c =
    let at = c.loop-ink in
    let next : levels_at c.args.m c.args.n (at.ink-index + 1) ≡ _ =
    ap (levels_at c.args.m c.args.n) (add-one at.ink-index) ∙ levels_next c.args.m c.args.n at.ink-index c.requires.0 in (
      omega arith,
      rw next (c.next_words-words.ensures _ at.invariant.1),
      put_left (first_row c.args.m c.args.n at.ink-index c.args.inks.now c.loop-ink-test.true c.ink_byte.ensures
          at.invariant.2) (c.wide_row-p.ensures c.args.m at.levels _ c.requires.1 at.invariant.1),
    )

pub returns : goal.returns
returns c =
    none_left (rw (rows_end c.args.m c.args.n c.loop-ink.ink-index c.args.inks.now c.loop-ink-test.false) at c.loop-ink.invariant.2)

pub slice_bounds-next_words-end : goal.slice_bounds-next_words-end
slice_bounds-next_words-end c = sym c.loop-ink.invariant.0
