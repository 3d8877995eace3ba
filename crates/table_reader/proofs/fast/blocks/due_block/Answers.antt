-- `table_reader::fast::blocks::due_block` meets its contract. The loop's invariant: the rows before the block and l lines of it are read.
-- Assumes nothing.
use Rattle.std.specs.Prelude.{◌≤◌, ◌+◌, ◌*◌, ◌≡◌}
use Rattle.laws.specs.Prelude.{◌∙◌, suc-mul, add-mul, add-one, arith, length}
use Rattle.table_reader.specs.Fast.Due.{row_bytes}
use Rattle.table_reader.specs.Fast.Block.{one_more, front_digits, next_within, line_kept, line_after, block_left}
use Rattle.table_reader.proofs.fast.blocks.due_block.Goals as goal

pub due_line-requires : goal.due_line-requires
due_line-requires c =
    let all : c.args.at + c.args.m * (c.args.m * row_bytes c.args.front) ≤ length c.args.s.now = omega (arith, c.if-s-at-2.false, c.if-s-at.false) in
    let l = c.loop-l in
    let h = c.loop-l-test.true in
    let pre = c.requires in (
      record { few = pre.few; inputs = pre.inputs; short = pre.short; shared = one_more pre.shared l.l h; room = omega (arith, pre.room) },
      front_digits _ _ _ _ pre.shared (omega (arith, h)) pre.few,
      omega (arith, h, pre.few),
      c.words_of-words.ensures,
      next_within _ _ _ _ (c.args.m * row_bytes c.args.front) _ h l.invariant.place all,
    )

pub returns-then-not-due_line : goal.returns-then-not-due_line
returns-then-not-due_line c = block_left _ _ _ _ _ _ _ _ _ (line_kept _ _ _ _ _ c.due_line.ensures.kept ∙ c.loop-l.invariant.kept)

pub loop-l-preserved : goal.loop-l-preserved
loop-l-preserved c =
    let l = c.loop-l in
    record {
      place = omega (arith, l.invariant.place, suc-mul l.l (c.args.m * row_bytes c.args.front), add-one l.l);
      kept = line_kept _ _ _ _ _ c.due_line.ensures.kept ∙ l.invariant.kept;
      reached = λ top rows. rw (line_after c.args.m c.args.q l.l) at
          (c.due_line.ensures.reached (c.if-not-due_line.false) top (l.invariant.reached top rows));
    }

pub returns : goal.returns
returns c =
    let l = c.loop-l in
    let all : l.l ≡ c.args.m = omega (arith, c.loop-l-test.false) in
    record {
      kept = l.invariant.kept;
      within = λ _. omega (arith, c.if-s-at-2.false, c.if-s-at.false);
      reached = λ _ from rows. rw (l.invariant.place, all, add-mul) at (l.invariant.reached from rows);
    }
