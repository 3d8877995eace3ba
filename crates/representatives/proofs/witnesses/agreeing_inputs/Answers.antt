-- `representatives::witnesses::agreeing_inputs` meets its contract: with no inputs any column will do; the column `base` distinguishes the two rows,
-- or the first that does is compared with it. Assumes nothing.
use Rattle.representatives.specs.Witnesses.{told_any}
use Rattle.representatives.proofs.witnesses.agreeing_inputs.Goals as goal

pub returns-then-s-eq0 : goal.returns-then-s-eq0
returns-then-s-eq0 c = told_any c.if-s-eq0.true c.requires.1.unlike

pub agree-requires : goal.agree-requires
agree-requires c =
    let pre = c.requires.1 in
    (pre.levels, pre.inputs, pre.small _ c.place_apart-y.ensures.there, pre.small _ pre.there)
