-- `classes::counting::class_firsts` meets its contract. The loop's invariant: what is kept and the assignments not yet visited give the classes of
-- all; each that is kept is in the chain of its key.
-- Assumes nothing.
use Rattle.std.specs.Prelude.{◌<◌, ◌≤◌}
use Rattle.laws.specs.Prelude.{refl, arith, length, get_or}
use Rattle.rules.specs.Calls.Answers.{ink_in}
use Rattle.classes.specs.Counting.{kept_none, kept_all, kept_enough, kept_known, kept_new}
use Rattle.classes.proofs.KeptChains.{chained_none, chained_new, known, unknown}
use Rattle.classes.proofs.counting.class_firsts.Goals as goal
use Rattle.classes.proofs.counting.class_firsts.Goals.{then-not-in_chain, else-not-in_chain}

pub loop-i-init : goal.loop-i-init
loop-i-init c =
    let a = c.args in (
      kept_none (ink_in a.cells.now) (length a.cells.now) a.ys.now a.xs.now a.enough a.firsts.now c.requires.1,
      chained_none a.m (ink_in a.cells.now) a.ys.now a.width a.firsts.now a.links.now a.heads.now c.requires.5,
    )

pub returns-then-count-enough : goal.returns-then-count-enough
returns-then-count-enough c = kept_enough c.loop-i.invariant.0 c.if-count-enough.true

pub loop-i-preserved : goal.loop-i-preserved
loop-i-preserved c =
    let l = c.loop-i in
    let (kept, chains) = l.invariant in
    let p = get_or c.args.xs.now l.i 0 in
    let more = c.loop-i-test.true in
    let few : l.count ≤ length l.firsts = omega (arith, kept.few, kept.room) in
    let fewer : l.count < c.args.enough = omega (arith, kept.few, c.if-count-enough.false) in
    elim c.if-not-in_chain.branch [
      | then-not-in_chain w ↦
          rw (w.firsts-is, w.links-is, w.heads-is, w.count-is) (
            kept_new kept more (unknown _ _ _ _ chains p _ c.key-key.ensures few c.in_chain.ensures w.if-not-in_chain.true) (omega arith) fewer
                (c.requires.7 l.i more),
            chained_new _ _ _ _ chains p _ c.key-key.ensures (omega (arith, kept.room)) (omega (arith, c.requires.2))
                (omega (arith, c.key-key.ensures, c.requires.6 p)),
          )
      | else-not-in_chain w ↦
          rw (w.firsts-is, w.links-is, w.heads-is, w.count-is) (
            kept_known kept more refl (known _ _ _ _ chains p _ c.key-key.ensures few c.in_chain.ensures w.if-not-in_chain.false),
            chains,
          )
    ]

pub returns : goal.returns
returns c = kept_all c.loop-i.invariant.0 c.loop-i-test.false
