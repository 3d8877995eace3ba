-- `classes::differences::first_difference` meets its contract. The loop begins where the inks are no longer known to be the same. Its invariant: the
-- remaining places decide. Assumes nothing.
use Rattle.laws.specs.Prelude.{ℕ, ◌∙◌, sym, ap, not, sub-zero, length}
use mathlib.Core.Option.{Option}
use Rattle.laws.specs.Lists.Walks.{find_next, find_stop, find_end}
use Rattle.rules.specs.Calls.Answers.{ink_in}
use Rattle.rules.specs.Groups.Differences.{differ_at, difference_over}
use Rattle.rules.specs.Lists.{range, find}
use Rattle.classes.proofs.Sames.{find_behind}
use Rattle.classes.proofs.differences.first_difference.Goals as goal

pub loop-k-init : goal.loop-k-init
unfolding difference_over
loop-k-init c =
    let a = c.args in
    let search : ℕ → Option ℕ = λ j. find (differ_at (ink_in a.cells.now) a.ys.now a.p a.q) (range 0 j) in
    let front = c.same_front-k.ensures in
    find_behind _ (length a.ys.now) c.same_front-k.result front.0 front.1 ∙ ap search (sub-zero (length a.ys.now))

pub returns-then-not-same_at : goal.returns-then-not-same_at
returns-then-not-same_at c =
    sym (find_stop _ c.loop-k.k (length c.args.ys.now) c.loop-k-test.true (c.same_at.ensures ∙ ap not c.if-not-same_at.true)) ∙ c.loop-k.invariant

pub loop-k-preserved : goal.loop-k-preserved
loop-k-preserved c =
    find_next _ c.loop-k.k (length c.args.ys.now) c.loop-k-test.true (c.same_at.ensures ∙ ap not c.if-not-same_at.false) ∙ c.loop-k.invariant

pub returns : goal.returns
returns c = sym (find_end _ c.loop-k.k (length c.args.ys.now) c.loop-k-test.false) ∙ c.loop-k.invariant
