-- `marks::group_mark::few_mark` meets its contract: one member, a split, or none. Assumes nothing.
use Rattle.marks.specs.GroupRule.{mark_single, mark_parted, mark_one}
use Rattle.marks.proofs.group_mark.few_mark.Goals as goal

pub returns-then-without_first-eq0 : goal.returns-then-without_first-eq0
returns-then-without_first-eq0 c = λ n g<.
    mark_single n c.args.marks.now c.args.g c.requires.0 g< c.without_first.result
    (c.without_first.ensures n g<) c.if-without_first-eq0.true

pub returns-then-split_of-g : goal.returns-then-split_of-g
returns-then-split_of-g c = λ n g<.
    mark_parted n c.args.marks.now c.args.g
    c.requires.0 g< c.without_first.result
    (c.without_first.ensures n g<) c.if-without_first-eq0.false
    c.split_of.result (c.split_of.ensures n g<) c.if-split_of-g.true

pub returns : goal.returns
returns c = λ n g<.
    mark_one n c.args.marks.now c.args.g
    c.requires.0 g< c.without_first.result
    (c.without_first.ensures n g<) c.if-without_first-eq0.false
    c.split_of.result (c.split_of.ensures n g<) c.if-split_of-g.false
