-- `radix::offsets::offsets` meets its contract. The loop's invariant: the offsets are those of the inputs from `i` on.
-- Assumes nothing.
use Rattle.laws.specs.Prelude.{◌∙◌, sym, one-le-pow, arith, length-set}
use Rattle.rules.specs.Groups.Groups.{size}
use Rattle.radix.proofs.Building.{built_none, built_all, built_some, built_weight, built_below, built_next, built_room, built_member, built_other}
use Rattle.radix.proofs.offsets.offsets.Goals as goal
use Rattle.radix.proofs.offsets.offsets.Goals.{then-member_of, else-member_of}

pub bounds-out-0 : goal.bounds-out-0
bounds-out-0 c = let a = c.args in omega (arith, one-le-pow (size a.n a.g) a.m c.requires.0)

pub loop-i-init : goal.loop-i-init
loop-i-init c =
    let a = c.args in
    built_none a.m a.n a.g a.out.now (omega (arith, one-le-pow (size a.n a.g) a.m c.requires.0))

pub overflow_cast-w : goal.overflow_cast-w
overflow_cast-w c =
    let a = c.args in
    let l = c.loop-i in
    omega (arith, built_weight a.m a.n a.g c.requires.0 l.invariant)

pub widen-len-requires : goal.widen-len-requires
widen-len-requires c =
    let a = c.args in
    let pos = c.requires.0 in
    let l = c.loop-i in
    let more = c.loop-i-test.true in
    let is = sym c.member_of.ensures ∙ c.if-member_of.true in (
      built_some a.m a.n a.g pos l.invariant,
      pos,
      omega (arith, built_room a.m a.n a.g pos l.invariant l.auto.i more is, length-set a.out.now 0 0),
      λ k k<.
          omega (
            arith,
            built_below a.m a.n a.g pos l.invariant k k<,
            built_next a.m a.n a.g pos l.invariant l.auto.i more,
            built_weight a.m a.n a.g pos l.invariant,
            c.requires,
          ),
    )

pub overflow_mul-w : goal.overflow_mul-w
overflow_mul-w c =
    let a = c.args in
    let l = c.loop-i in
    omega (arith, built_next a.m a.n a.g c.requires.0 l.invariant l.auto.i c.loop-i-test.true, c.requires)

pub loop-i-preserved : goal.loop-i-preserved
loop-i-preserved c =
    let a = c.args in
    let l = c.loop-i in
    elim c.if-member_of.branch [
      | then-member_of w ↦ rw (w.out-is, w.len-is) (built_member a.m a.n a.g c.requires.0 l.invariant l.auto.i c.loop-i-test.true
          w.widen-len.new.out w.widen-len.result (sym c.member_of.ensures ∙ w.if-member_of.true) w.widen-len.ensures.0 w.widen-len.ensures.1)
      | else-member_of w ↦ rw (w.out-is, w.len-is) (built_other a.m a.n a.g c.requires.0 l.invariant l.auto.i c.loop-i-test.true
          (sym c.member_of.ensures ∙ w.if-member_of.false))
    ]

pub returns : goal.returns
returns c =
    let a = c.args in
    let l = c.loop-i in
    built_all a.m a.n a.g c.loop-i-test.false l.invariant
