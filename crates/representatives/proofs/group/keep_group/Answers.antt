-- `representatives::group::keep_group` meets its contract: the empty group, too many classes that pass on, or a count. Assumes nothing.
use Rattle.laws.specs.Prelude.{subst, arith}
use Rattle.representatives.specs.Sources.{PassesOn}
use Rattle.representatives.specs.Working.{step_counted}
use Rattle.representatives.proofs.GroupSteps.{step_empty, step_off_lower, step_off_apart, step_inner, step_passed}
use Rattle.representatives.proofs.group.keep_group.Goals as goal

pub returns-then-g-eq0 : goal.returns-then-g-eq0
returns-then-g-eq0 c = let pre = c.requires in step_empty pre.0 pre.1 c.if-g-eq0.true

pub returns-then-passes_on : goal.returns-then-passes_on
returns-then-passes_on c =
    let pre = c.requires in
    step_passed pre.0 pre.1 (c.source-bit.ensures c.args.n pre.1.group) (subst (PassesOn _ _ _ _ _) c.if-passes_on.true c.passes_on.ensures)
    c.put_many.ensures

pub count_group-requires : goal.count_group-requires
count_group-requires c =
    let pre = c.requires in
    let inner = step_inner pre.0 pre.1 (c.source-bit.ensures c.args.n pre.1.group) c.few_inside-from.result c.few_inside-from.ensures.0 in
    (pre.0, pre.1, omega arith, inner.0, inner.1, c.few_inside-from.ensures.1)

pub few_inside-from-requires : goal.few_inside-from-requires
few_inside-from-requires c =
    let pre = c.requires in
    let one = c.source-bit.ensures c.args.n pre.1.group in
    step_counted pre.0 pre.1 (step_off_lower pre.0 pre.1 one).1 (step_off_apart pre.0 pre.1 one)
