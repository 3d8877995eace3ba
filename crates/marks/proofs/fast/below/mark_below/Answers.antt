-- `marks::fast::below::mark_below` meets its contract: the group is marked, and copies are passed. Assumes nothing.
use Rattle.std.specs.Prelude.{◌<◌, ◌-◌, ◌^◌, ◌≡◌}
use Rattle.laws.specs.Prelude.{ℕ, subst, arith, pow_mono, pow_pos}
use Rattle.rules.specs.Calls.Answers.{ink_in}
use Rattle.marks.specs.Marking.{Below}
use Rattle.marks.proofs.Passing.{passed_none, passed_next, passed_copies, passed_idle}
use Rattle.marks.proofs.fast.below.mark_below.Goals as goal

pub loop-g-init : goal.loop-g-init
loop-g-init c = let a = c.args in (passed_none a.m a.n (ink_in a.cells.now) a.marks.now a.counts.now a.kept.now, omega arith)

pub more_idle-idle-requires : goal.more_idle-idle-requires
more_idle-idle-requires c =
    let pre = c.requires in
    let l = c.loop-g in (
      omega (arith, pre.0.for_counts, pow_pos c.args.n),
      omega (arith, pow_mono pre.0.inputs, pow_pos c.args.n),
      omega (arith, l.invariant.0.idle_below, pow_mono pre.0.inputs),
    )

pub loop-g-preserved : goal.loop-g-preserved
loop-g-preserved c =
    let a = c.args in
    let l = c.loop-g in
    let pre = c.requires in
    let pos : 0 < a.m = omega (arith, pre.0.levels) in
    let below_whole : l.g < 2 ^ a.n = omega (arith, pow_pos a.n) in
    let near = c.past_of-past.ensures a.n below_whole l.invariant.0.near in
    let next = passed_next l.invariant.0 pre.2 pos below_whole near c.mark_next-mark.ensures c.put_mark.ensures c.more_idle-idle.ensures in
    let did = passed_copies pos pre.2 next near.1 c.loop-g-test.true (omega arith) c.pass_copies-g.auto.marks c.pass_copies-g.ensures in
    (did.2, did.1)

pub returns : goal.returns
returns c =
    let a = c.args in
    let l = c.loop-g in
    let all : l.g ≡ 2 ^ a.n - 1 = omega arith in
    record {
      marked = subst (λ (k : ℕ). Below a.m a.n (ink_in a.cells.now) a.marks.now k l.marks) all l.invariant.0.marked;
      all_idle = l.invariant.0.all_idle;
      exact = passed_idle l.invariant.0 all;
    }
