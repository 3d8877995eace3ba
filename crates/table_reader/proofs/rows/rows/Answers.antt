-- `table_reader::rows::rows` meets its contract. The loop's invariant: the rows from here are the rows from the start, and `levels` begins with
-- the levels of index p. Assumes nothing.
use Rattle.std.proofs.lemmas.Result.{err_from_is_err_and}
use Rattle.std.specs.Prelude.{◌<◌, ◌-◌, ◌^◌}
use Rattle.laws.specs.Prelude.{◌∙◌, arith}
use Rattle.rules.specs.Limits.{most_inputs}
use Rattle.laws.specs.Numbers.Levels.{zeros_front, front_next}
use Rattle.laws.specs.Numbers.Sizes.{Size, sized}
use Rattle.table_reader.specs.Fast.Blocks.{two_zeros}
use Rattle.table_reader.specs.Fast.Rows.{row_due, rows_back, reached_next, rows_done, ink_within}
use Rattle.table_reader.proofs.rows.rows.Goals as goal

pub power-count-requires : goal.power-count-requires
power-count-requires c =
    let size : Size c.args.m c.args.n = sized c.args.m c.args.n c.requires.0 in
    omega (arith, size)

pub due_rows-taken-requires : goal.due_rows-taken-requires
due_rows-taken-requires c =
    let size : Size c.args.m c.args.n = sized c.args.m c.args.n c.requires.0 in
    let front = c.args.n - 2 in
    record {
      size = c.requires.0;
      short = size.inputs_most;
      due = zeros_front _ front most_inputs (omega arith);
      zeros = two_zeros front most_inputs (omega (arith, size.inputs_least));
      room = c.requires.1;
    }

pub row-requires : goal.row-requires
row-requires c =
    let size : Size c.args.m c.args.n = sized c.args.m c.args.n c.requires.0 in
    omega (arith, c.loop-p.invariant.long, size.inputs_most)

pub returns-in_err-ink : goal.returns-in_err-ink
returns-in_err-ink c =
    let p = err_from_is_err_and c.from_residual.result c.from_residual.ensures.1 in
    let more : c.loop-p.p < c.args.m ^ c.args.n = omega (arith, c.loop-p-test.true, c.power-count.ensures) in
    let rows = c.loop-p.invariant.rows in
    rw (p.1, p.2) (rows_back _ _ _ _ _ _ _ rows.reached more _ (row_due rows c.row.result c.row.ensures) _ c.in_err-ink.was)

pub overflow_cast-cells : goal.overflow_cast-cells
overflow_cast-cells c =
    let more : c.loop-p.p < c.args.m ^ c.args.n = omega (arith, c.loop-p-test.true, c.power-count.ensures) in
    let size : Size c.args.m c.args.n = sized c.args.m c.args.n c.requires.0 in
    let rows = c.loop-p.invariant.rows in
    let small = ink_within _ _ _ _ _ _ _ rows.reached more _ (row_due rows c.row.result c.row.ensures) _ c.in_ok-ink.was in
    omega (arith, small, size.levels_most)

pub next_levels-requires : goal.next_levels-requires
next_levels-requires c =
    let size : Size c.args.m c.args.n = sized c.args.m c.args.n c.requires.0 in
    omega (arith, c.loop-p.invariant.long, size.inputs_most, size.levels_most)

pub loop-p-preserved : goal.loop-p-preserved
loop-p-preserved c =
    let more : c.loop-p.p < c.args.m ^ c.args.n = omega (arith, c.loop-p-test.true, c.power-count.ensures) in
    let size : Size c.args.m c.args.n = sized c.args.m c.args.n c.requires.0 in
    let rows = c.loop-p.invariant.rows in
    record {
      long = c.next_levels.auto.levels ∙ c.loop-p.invariant.long;
      rows = record {
        reached =
            reached_next _ _ _ _ _ _ _ rows.reached more _ (row_due rows c.row.result c.row.ensures) _ c.in_ok-ink.was
            (omega (arith, more, c.requires.1));
        due = front_next _ _ _ (omega (arith, size.levels_least)) _ _ rows.due c.next_levels.ensures;
      };
    }

pub returns : goal.returns
returns c = rows_done _ _ _ _ _ _ _ c.loop-p.invariant.rows.reached (omega (arith, c.loop-p-test.false, c.power-count.ensures))
