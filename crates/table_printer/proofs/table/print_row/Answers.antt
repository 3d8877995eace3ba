-- `table_printer::table::print_row` meets its contract. The loop's invariant: the row from the next level on is left to write at p.
-- Assumes nothing.
use Rattle.std.specs.Prelude.{◌<◌, ◌≤◌, ◌+◌, ◌∷◌}
use Rattle.laws.specs.Prelude.{ℕ, List, [], arith, length, get_or, length-set}
use Rattle.rules.specs.Text.{space, newline, digit_byte, zero_byte, space_byte, newline_byte}
use Rattle.net_sheets.specs.Text.Put.{NetLeft, parts_left, bytes_left, none_left}
use Rattle.table_printer.specs.Rows.Rows.{row_from_input, row_all, printed_row_next, row_end}
use Rattle.table_printer.proofs.table.print_row.Goals as goal

-- what is left before a level, ..
level_left : (levels : List ℕ) (ink i : ℕ) → i < length levels → {out : List ℕ} {p : ℕ} {out₀ : List ℕ} {at : ℕ} {t : List ℕ}
    → NetLeft out p (row_from_input levels ink i) out₀ at t
    → NetLeft out p ((zero_byte + get_or levels i 0) ∷ space_byte ∷ row_from_input levels ink (i + 1)) out₀ at t
unfolding digit_byte space
level_left levels ink i turn left = rw (printed_row_next levels ink i turn) at left

-- .. and after the last
ink_left : (levels : List ℕ) (ink i : ℕ) → length levels ≤ i → {out : List ℕ} {p : ℕ} {out₀ : List ℕ} {at : ℕ} {t : List ℕ}
    → NetLeft out p (row_from_input levels ink i) out₀ at t → NetLeft out p (ink ∷ newline_byte ∷ []) out₀ at t
unfolding newline
ink_left levels ink i end left = rw (row_end levels ink i end) at left

pub loop-level-init : goal.loop-level-init
loop-level-init c = parts_left (row_all c.args.levels.now c.args.ink) c.requires.1

pub overflow_add-out : goal.overflow_add-out
overflow_add-out c = omega (arith, c.requires.0 c.loop-level.level-index c.loop-level-test.true)

pub loop-level-preserved : goal.loop-level-preserved
loop-level-preserved c = bytes_left (level_left _ c.args.ink _ c.loop-level-test.true c.loop-level.invariant)

pub returns : goal.returns
returns c = none_left (bytes_left (ink_left _ c.args.ink _ c.loop-level-test.false c.loop-level.invariant))

pub bounds-out-p : goal.bounds-out-p
bounds-out-p c = omega (arith, (level_left _ c.args.ink _ c.loop-level-test.true c.loop-level.invariant).room)

pub overflow_add-out-in-loop-level : goal.overflow_add-out-in-loop-level
overflow_add-out-in-loop-level c = omega (arith, (level_left _ c.args.ink _ c.loop-level-test.true c.loop-level.invariant).room)

pub bounds-out-p-in-loop-level : goal.bounds-out-p-in-loop-level
bounds-out-p-in-loop-level c = simp length-set (omega (arith, (level_left _ c.args.ink _ c.loop-level-test.true c.loop-level.invariant).room))

pub overflow_add-p : goal.overflow_add-p
overflow_add-p c = omega (arith, (level_left _ c.args.ink _ c.loop-level-test.true c.loop-level.invariant).room)

pub bounds-out-p-2 : goal.bounds-out-p-2
bounds-out-p-2 c = omega (arith, (ink_left _ c.args.ink _ c.loop-level-test.false c.loop-level.invariant).room)

pub overflow_add-out-2 : goal.overflow_add-out-2
overflow_add-out-2 c = omega (arith, (ink_left _ c.args.ink _ c.loop-level-test.false c.loop-level.invariant).room)

pub bounds-out-p-3 : goal.bounds-out-p-3
bounds-out-p-3 c = simp length-set (omega (arith, (ink_left _ c.args.ink _ c.loop-level-test.false c.loop-level.invariant).room))

pub overflow_add-result : goal.overflow_add-result
overflow_add-result c = omega (arith, (ink_left _ c.args.ink _ c.loop-level-test.false c.loop-level.invariant).room)
