-- `representatives::classifying::classify` meets its contract: too many classes, with witness columns, or few, which are recorded. Assumes nothing.
use Rattle.laws.specs.Prelude.{arith, pow_mono, pow_pos}
use Rattle.representatives.specs.Columns.{columns_of}
use Rattle.representatives.specs.Shifts.{shifted}
use Rattle.representatives.specs.Counting.{counting_fits, counting_told, counting_many, counting_cover, counting_exact, judged_many, judged_few}
use Rattle.representatives.proofs.classifying.classify.Goals as goal

pub row_firsts-count-requires : goal.row_firsts-count-requires
row_firsts-count-requires c =
    let pre = c.requires in
    counting_fits (omega arith) pre.group c.args.xs.now (columns_of c.args.run c.args.ys.now) pre.rows pre.columns _ _ pre.for_cells pre.for_firsts

pub agreeing_in_all-s-requires : goal.agreeing_in_all-s-requires
agreeing_in_all-s-requires c =
    let pre = c.requires in (
      counting_told (omega arith) pre.group c.args.xs.now (columns_of c.args.run c.args.ys.now) pre.rows pre.columns (omega arith)
          c.row_firsts-count.ensures c.if-m-count.true pre.inputs _ pre.for_cells,
      omega (arith, shifted c.args.n pre.inputs, pow_pos c.args.n, pow_mono pre.inputs),
    )

pub returns-then-m-count : goal.returns-then-m-count
returns-then-m-count c =
    let pre = c.requires in
    judged_many pre.levels pre.group pre.some pre.for_kept
    (counting_many (omega arith) pre.group c.args.xs.now (columns_of c.args.run c.args.ys.now) pre.rows pre.columns (omega arith)
    c.row_firsts-count.ensures c.if-m-count.true c.agreeing_in_all-s.ensures) c.put_many.ensures

pub returns : goal.returns
returns c =
    let pre = c.requires in
    let few = c.if-m-count.false in
    let columns = columns_of c.args.run c.args.ys.now in
    judged_few pre.levels pre.group pre.some pre.for_kept few
    (counting_exact (omega arith) pre.group c.args.xs.now columns pre.rows pre.columns (omega arith) c.row_firsts-count.ensures few)
    (counting_cover (omega arith) pre.group c.args.xs.now columns pre.rows pre.columns (omega arith) c.row_firsts-count.ensures few) c.copy.ensures
