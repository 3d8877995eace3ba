-- `fields::header::same::same_names` meets its contract. The loop's invariant: all names are the same exactly when those from `i` on are.
-- Assumes nothing.
use Rattle.laws.specs.Prelude.{◌∙◌, sym, ap₂, sub-zero, arith}
use Rattle.rules.specs.Lists.{same}
use Rattle.fields.specs.Header.Same.{names_same_next, names_differ, names_end}
use Rattle.fields.proofs.header.same.same_names.Goals as goal

pub loop-i-init : goal.loop-i-init
loop-i-init c = rw sub-zero

pub name_of-requires : goal.name_of-requires
name_of-requires c = (omega arith, c.requires.1 c.loop-i.i c.loop-i-test.true)

pub name_of-requires-in-loop-i : goal.name_of-requires-in-loop-i
name_of-requires-in-loop-i c = (omega arith, c.requires.2 c.loop-i.i c.loop-i-test.true)

pub returns-then-not-same_bytes : goal.returns-then-not-same_bytes
returns-then-not-same_bytes c =
    let at = c.loop-i in
    let told = c.same_bytes.ensures ∙ ap₂ same c.name_of.ensures c.name_of-in-loop-i.ensures in
    sym (at.invariant ∙ names_differ _ _ at.i _ c.loop-i-test.true (sym told ∙ c.if-not-same_bytes.true))

pub loop-i-preserved : goal.loop-i-preserved
loop-i-preserved c =
    let at = c.loop-i in
    let told = c.same_bytes.ensures ∙ ap₂ same c.name_of.ensures c.name_of-in-loop-i.ensures in
    at.invariant ∙ names_same_next _ _ at.i _ c.loop-i-test.true (sym told ∙ c.if-not-same_bytes.false)

pub returns : goal.returns
returns c = sym (c.loop-i.invariant ∙ names_end _ _ c.loop-i.i _ c.loop-i-test.false)
