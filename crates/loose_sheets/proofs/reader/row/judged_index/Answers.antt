-- `loose_sheets::reader::row::judged_index` meets its contract. The loop's invariant: the index from here is the index from the start.
-- Assumes nothing.
use Rattle.std.proofs.lemmas.Result.{err_from_is_err_and}
use Rattle.laws.specs.Prelude.{arith}
use Rattle.laws.specs.Numbers.Sizes.{Size, sized}
use Rattle.loose_sheets.specs.Reader.Index.{index_done, index_back, index_next, index_fits}
use Rattle.loose_sheets.proofs.reader.row.judged_index.Goals as goal

pub level_field-requires : goal.level_field-requires
level_field-requires c = (sized _ _ c.requires).levels_most

pub returns-in_err-level : goal.returns-in_err-level
returns-in_err-level c =
    let p = err_from_is_err_and c.from_residual.result c.from_residual.ensures.1 in
    rw (p.1, p.2) (index_back _ _ _ _ _ _ _ c.loop.invariant c.loop-test.true _ c.level_field.ensures _ c.in_err-level.was)

pub overflow_mul-index : goal.overflow_mul-index
overflow_mul-index c =
    let size : Size c.args.m c.args.n = sized _ _ c.requires in
    let fits =
    index_fits _ _ _ _ _ _ _ c.loop.invariant c.loop-test.true _ c.level_field.ensures _ c.in_ok-level.was (omega (arith, size.levels_least)) in
    record { fits = omega (arith, fits, size.cells_most) }

pub overflow_add-index : goal.overflow_add-index
overflow_add-index c =
    let size : Size c.args.m c.args.n = sized _ _ c.requires in
    let fits =
    index_fits _ _ _ _ _ _ _ c.loop.invariant c.loop-test.true _ c.level_field.ensures _ c.in_ok-level.was (omega (arith, size.levels_least)) in
    record { fits = omega (arith, fits, size.cells_most) }

pub loop-preserved : goal.loop-preserved
loop-preserved c = index_next _ _ _ _ _ _ _ c.loop.invariant c.loop-test.true _ c.level_field.ensures _ c.in_ok-level.was

pub returns : goal.returns
returns c = index_done _ _ _ _ _ _ _ c.loop.invariant c.loop-test.false
