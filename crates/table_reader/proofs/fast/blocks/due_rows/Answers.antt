-- `table_reader::fast::blocks::due_rows` meets its contract. The loop's invariant: q blocks are read.
-- Assumes nothing.
use Rattle.std.specs.Prelude.{◌<◌, ◌-◌, ◌^◌}
use Rattle.laws.specs.Prelude.{refl, arith}
use Rattle.table_reader.specs.Fast.Blocks.{start_bounds, block_within, blocks_next, blocks_left}
use Rattle.table_reader.proofs.fast.blocks.due_rows.Goals as goal

pub overflow_sub-front : goal.overflow_sub-front
overflow_sub-front c = omega (arith, (start_bounds c.requires).all_inputs)

pub power-blocks-requires : goal.power-blocks-requires
power-blocks-requires c = let start = start_bounds c.requires in (start.few, omega (arith, start.inputs))

pub overflow_add-bytes : goal.overflow_add-bytes
overflow_add-bytes c = omega (arith, (start_bounds c.requires).inputs)

pub overflow_mul-bytes-2 : goal.overflow_mul-bytes-2
overflow_mul-bytes-2 c = omega (arith, (start_bounds c.requires).bytes.0)

pub overflow_mul-bytes-3 : goal.overflow_mul-bytes-3
overflow_mul-bytes-3 c = omega (arith, (start_bounds c.requires).bytes.1)

pub due_block-requires : goal.due_block-requires
due_block-requires c =
    let start = start_bounds c.requires in
    record {
      few = start.few;
      inputs = start.inputs;
      short = omega (arith, start.short);
      shared = record { due = c.loop-q.invariant.blocks.due; most = omega (arith, c.loop-q-test.true, c.power-blocks.ensures) };
      room = omega (arith, start.room);
    }

pub returns-then-not-due_block : goal.returns-then-not-due_block
returns-then-not-due_block c =
    let start = start_bounds c.requires in
    let all = start.all_inputs in
    rw c.loop-q.invariant.rows (blocks_left _ _ start.least _ _ _ _ _ _ c.loop-q.invariant.blocks _ _ all c.due_block.ensures.kept)

pub next_levels-requires : goal.next_levels-requires
next_levels-requires c =
    let start = start_bounds c.requires in
    (omega (arith, start.few), omega (arith, start.short))

pub overflow_add-taken : goal.overflow_add-taken
overflow_add-taken c =
    let more : c.loop-q.q < c.args.m ^ (c.args.n - 2) = omega (arith, c.loop-q-test.true, c.power-blocks.ensures) in
    omega (arith, c.loop-q.invariant.rows, block_within _ _ _ more, (start_bounds c.requires).room)

pub loop-q-preserved : goal.loop-q-preserved
loop-q-preserved c =
    let start = start_bounds c.requires in
    let more : c.loop-q.q < c.args.m ^ (c.args.n - 2) = omega (arith, c.loop-q-test.true, c.power-blocks.ensures) in
    record {
      rows = omega (arith, c.loop-q.invariant.rows);
      blocks =
          blocks_next _ _ start.least _ _ _ _ _ _ c.loop-q.invariant.blocks _ _ _ (omega (arith, start.short)) more
          c.due_block.result c.due_block.ensures c.if-not-due_block.false c.next_levels.ensures;
    }

pub returns : goal.returns
returns c =
    let start = start_bounds c.requires in
    rw c.loop-q.invariant.rows (blocks_left _ _ start.least _ _ _ _ _ _ c.loop-q.invariant.blocks _ _ start.all_inputs refl)
