-- `wirings::shallow_split::shallow_split` meets its contract. The loop's invariant: the search from the current part on gives the same result.
-- Assumes nothing.
use Rattle.laws.specs.Prelude.{◌∙◌, sym, arith}
use Rattle.rules.specs.Nets.Shallow.{shallow_split}
use Rattle.radix.specs.Widths.{most_members}
use Rattle.marks.specs.Searching.{sought_none, sought_all, part_looked_at, sought_found, sought_next}
use Rattle.wirings.proofs.ShallowKeeping.{shallow_looked}
use Rattle.wirings.proofs.shallow_split.shallow_split.Goals as goal

pub overflow_sub-first : goal.overflow_sub-first
overflow_sub-first c = omega (arith, c.without_first-rest.ensures most_members c.requires.1)

pub loop-part-init : goal.loop-part-init
loop-part-init c =
    sought_none _ _ c.args.g c.without_first-rest.result (shallow_looked c.args.marks.now c.args.g c.args.fewest.now)
    c.requires.0 c.without_first-rest.ensures

pub returns-then-keeps : goal.returns-then-keeps
unfolding shallow_split
returns-then-keeps c =
    let l = c.loop-part in
    sought_found _ _ c.args.g c.without_first-rest.result
    (shallow_looked c.args.marks.now c.args.g c.args.fewest.now) c.requires.0 c.without_first-rest.ensures
    l.part l.invariant c.loop-part-test.true
    (sym c.keeps.ensures ∙ c.if-keeps.true)

pub next_part-part-requires : goal.next_part-part-requires
next_part-part-requires c =
    (omega (arith, c.without_first-rest.ensures most_members c.requires.1), c.loop-part-test.true, c.loop-part.invariant.is_part)

pub loop-part-preserved : goal.loop-part-preserved
loop-part-preserved c =
    let l = c.loop-part in
    sought_next _ _ c.args.g c.without_first-rest.result
    (shallow_looked c.args.marks.now c.args.g c.args.fewest.now) c.requires.0 c.without_first-rest.ensures
    l.part l.invariant c.loop-part-test.true
    (sym c.keeps.ensures ∙ c.if-keeps.false) c.next_part-part.result c.next_part-part.ensures

pub returns : goal.returns
unfolding shallow_split
returns c =
    let w = c.without_first-rest in
    let l = c.loop-part in
    sought_all _ _ c.args.g w.result (shallow_looked c.args.marks.now c.args.g c.args.fewest.now) c.requires.0
    w.ensures l.part l.invariant c.loop-part-test.false

pub keeps-requires : goal.keeps-requires
keeps-requires c =
    let at = part_looked_at _ _ c.args.g c.without_first-rest.result (shallow_looked c.args.marks.now c.args.g c.args.fewest.now)
    c.requires.0 c.without_first-rest.ensures c.loop-part.part c.loop-part.invariant c.loop-part-test.true most_members c.requires.1 in
    (at.0, at.1, c.requires.2, c.requires.3)
