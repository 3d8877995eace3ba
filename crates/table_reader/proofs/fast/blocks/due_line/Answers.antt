-- `table_reader::fast::blocks::due_line` meets its contract. The loop's invariant: the rows before the line and l rows of it are read.
-- Assumes nothing.
use Rattle.std.specs.Prelude.{◌≤◌, ◌+◌, ◌^◌, ◌*◌, ◌≡◌}
use Rattle.laws.specs.Prelude.{◌∙◌, suc-mul, add-one, arith, length, take-set-le}
use Rattle.table_reader.specs.Fast.Due.{row_bytes}
use Rattle.table_reader.specs.Fast.Block.{line_next}
use Rattle.table_reader.proofs.fast.blocks.due_line.Goals as goal

pub overflow_cast-cells : goal.overflow_cast-cells
overflow_cast-cells c = omega (arith, c.in-Some.ensures.within, c.requires.0.few)

pub loop-l-preserved : goal.loop-l-preserved
loop-l-preserved c =
    let l = c.loop-l in
    let room : c.args.m ^ (c.args.front + 1 + 1) ≤ length l.cells = omega (arith, c.requires.0.room) in
    let before : c.args.q * c.args.m ≤ c.args.q * c.args.m + l.l = omega arith in
    record {
      place = omega (arith, l.invariant.place, suc-mul l.l (row_bytes c.args.front), add-one l.l);
      kept = take-set-le _ _ _ _ before ∙ l.invariant.kept;
      reached = λ top rows. line_next c.requires.0.shared _ _ top _ l.l _ _ c.loop-l-test.true room c.in-Some.ensures (l.invariant.reached top rows);
    }

pub returns : goal.returns
returns c =
    let l = c.loop-l in
    let all : l.l ≡ c.args.m = omega (arith, c.loop-l-test.false) in
    record { kept = l.invariant.kept; within = λ _. c.requires.4; reached = λ _ from rows. rw (l.invariant.place, all) at (l.invariant.reached from rows) }
