-- `classes::keys::key` meets its contract. The loop's invariant: the key so far and the remaining columns give the key. Assumes nothing.
use Rattle.laws.specs.Prelude.{◌∙◌, sym, ap, refl, arith, take, drop_of_length-le}
use Rattle.rules.specs.Calls.Answers.{ink_in}
use Rattle.classes.specs.Keys.{key_from, key_of, key_next}
use Rattle.classes.proofs.keys.key.Goals as goal

pub loop-y-init : goal.loop-y-init
unfolding key_of
loop-y-init c = (refl, omega arith)

pub loop-y-preserved : goal.loop-y-preserved
loop-y-preserved c =
    let a = c.args in
    let l = c.loop-y in
    (key_next a.m (ink_in a.cells.now) a.p l.made (take a.width a.ys.now) l.y-index c.loop-y-test.true ∙ l.invariant.0, omega arith)

pub returns : goal.returns
unfolding key_from
returns c =
    let a = c.args in
    let l = c.loop-y in
    ap (key_from a.m (ink_in a.cells.now) a.p l.made) (sym (drop_of_length-le (take a.width a.ys.now) c.loop-y-test.false)) ∙ l.invariant.0
