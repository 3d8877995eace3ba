-- `evaluation::lists::cells::paint_row` meets its contract. The loop's invariant: the cells for the entries so far are written. Assumes nothing.
use Rattle.std.specs.Prelude.{◌<◌, ◌+◌, ◌-◌, ◌*◌, ◌/◌, ◌%◌, ◌≡◌}
use Rattle.laws.specs.Prelude.{ℕ, List, arith, length, get_or, take, drop}
use Rattle.evaluation.specs.declared.lists.order.Span.{Span}
use Rattle.evaluation.specs.Lists.Slices.{slice_length, slice_turn, slice_at}
use Rattle.evaluation.specs.Lists.Painted.{RowCells, painted_cell, painted_more}
use Rattle.evaluation.proofs.lists.cells.paint_row.Goals as goal

-- the entries of the inner list
abbrev entries : Span → List ℕ → List ℕ
entries inner lists = take (inner.start + inner.count - inner.start) (drop inner.start lists)

-- what a turn reads is inside the digits, and what it writes is inside the cells
turn_there : (inner : Span) (digits : List ℕ) (row step place : ℕ) (lists : List ℕ) (long : ℕ) → RowCells inner digits row step place lists long
    → (i : ℕ) → i < length (entries inner lists)
    → (row + get_or (entries inner lists) i 0 % 16 * step < length digits) × (place + get_or (entries inner lists) i 0 / 16 < long)
turn_there inner digits row step place lists long ready i at =
    let turn : i < inner.count = slice_turn _ _ _ _ at in
    rw (slice_at lists inner.start inner.count i turn) (ready.digit_there i turn, ready.room i turn)

pub loop-entry-preserved : goal.loop-entry-preserved
loop-entry-preserved c =
    let a = c.args in
    let l = c.loop-entry in
    let turn : l.entry-index < a.inner.count = slice_turn a.lists.now a.inner.start a.inner.count l.entry-index c.loop-entry-test.true in
    painted_more _ _ l.entry-index l.cells _ l.invariant
    (rw (slice_at a.lists.now a.inner.start a.inner.count l.entry-index turn)
    (painted_cell _ _ _ (omega (arith, c.requires.room l.entry-index turn, l.invariant.same))))

pub returns : goal.returns
returns c =
    let a = c.args in
    let l = c.loop-entry in
    let end : l.entry-index ≡ a.inner.count =
    omega (arith, slice_length a.lists.now a.inner.start a.inner.count c.requires.there, c.loop-entry-test.false) in
    rw end at l.invariant
