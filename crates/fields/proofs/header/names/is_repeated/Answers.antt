-- `fields::header::names::is_repeated` meets its contract. The loop's invariant: some input has the name exactly when one from `i` on has it.
-- Assumes nothing.
use Rattle.laws.specs.Prelude.{◌∙◌, sym, sub-zero, add-sub_cancel_left, arith}
use Rattle.nets.specs.Forms.{name_in}
use Rattle.laws.specs.Lists.Walks.{any_next, any_stop, any_end}
use Rattle.fields.proofs.header.names.is_repeated.Goals as goal

pub slice_bounds-same_bytes-end : goal.slice_bounds-same_bytes-end
slice_bounds-same_bytes-end c = omega (arith, c.requires.1 c.loop-i.i c.loop-i-test.true)

pub overflow_add-end : goal.overflow_add-end
overflow_add-end c = let end = slice_bounds-same_bytes-end c in omega arith

pub returns-then-same_bytes : goal.returns-then-same_bytes
unfolding name_in
returns-then-same_bytes c =
    let told = rw add-sub_cancel_left at c.same_bytes.ensures in
    sym (any_stop _ _ c.loop-i.i _ c.loop-i-test.true (sym told ∙ c.if-same_bytes.true)) ∙ c.loop-i.invariant

pub loop-i-preserved : goal.loop-i-preserved
unfolding name_in
loop-i-preserved c =
    let told = rw add-sub_cancel_left at c.same_bytes.ensures in
    any_next _ _ c.loop-i.i _ c.loop-i-test.true (sym told ∙ c.if-same_bytes.false) ∙ c.loop-i.invariant

pub returns : goal.returns
returns c = sym (any_end _ _ c.loop-i.i _ c.loop-i-test.false) ∙ c.loop-i.invariant

pub loop-i-init : goal.loop-i-init
loop-i-init c = rw sub-zero
