-- `representatives::witnesses::agreeing_in_all` meets its contract: columns distinguish each row from all rows before it. Assumes nothing.
use Rattle.laws.specs.Prelude.{arith, ◌-◌}
use Rattle.representatives.specs.Columns.{columns_some, column_first}
use Rattle.representatives.specs.Witnesses.{from_next}
use Rattle.representatives.proofs.witnesses.agreeing_in_all.Goals as goal

pub bounds-heads-0 : goal.bounds-heads-0
bounds-heads-0 c = (columns_some c.args.run c.args.heads.now c.requires.0.some).0

pub place_apart-base-requires : goal.place_apart-base-requires
place_apart-base-requires c =
    let a = c.args in
    let pre = c.requires.0 in
    ((columns_some a.run a.heads.now pre.some).1, column_first a.run a.heads.now pre.some, pre.within a.m (omega arith), pre.within (a.m - 1) (omega arith))

pub agreeing_in_row-rest-requires : goal.agreeing_in_row-rest-requires
agreeing_in_row-rest-requires c =
    let pre = c.requires.0 in
    let l = c.loop-k in (
      (columns_some c.args.run c.args.heads.now pre.some).1,
      omega (arith, pre.room, l.invariant.most),
      λ j h.
          record {
            levels = pre.levels;
            inputs = pre.inputs;
            there = c.place_apart-base.ensures.there;
            small = pre.small;
            left = pre.within l.k l.invariant.most;
            right = pre.within j (omega (arith, l.invariant.most));
            unlike = pre.unlike j l.k h l.invariant.most;
          },
    )

pub loop-k-preserved : goal.loop-k-preserved
loop-k-preserved c = from_next (omega arith) c.loop-k.invariant c.agreeing_in_row-rest.ensures
