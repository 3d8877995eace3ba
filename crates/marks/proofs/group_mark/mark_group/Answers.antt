-- `marks::group_mark::mark_group` meets its contract: the empty group, a group with too many classes, or the mark of a group with few.
-- Assumes nothing.
use Rattle.laws.specs.Prelude.{◌∙◌, sym, ltb-true, ltb-false}
use Rattle.marks.specs.GroupRule.{mark_empty, many_mark, few_mark_lem}
use Rattle.marks.proofs.group_mark.mark_group.Goals as goal

pub returns-then-g-eq0 : goal.returns-then-g-eq0
returns-then-g-eq0 c = mark_empty _ _ _ _ _ c.if-g-eq0.true

pub returns-then-more_classes_than_levels : goal.returns-then-more_classes_than_levels
returns-then-more_classes_than_levels c = many_mark _ _ _ _ _ (ltb-true _ _ (sym c.more_classes_than_levels.ensures ∙ c.if-more_classes_than_levels.true))

pub returns : goal.returns
returns c =
    c.few_mark.ensures c.args.n c.requires.2
    ∙ few_mark_lem _ _ _ _ _ c.if-g-eq0.false (ltb-false _ _ (sym c.more_classes_than_levels.ensures ∙ c.if-more_classes_than_levels.false))
