-- `classes::fast::folded::folded_firsts` meets its contract: the folded cells give the same classes. Assumes nothing.
use Rattle.std.specs.Prelude.{◌-◌, ◌/◌}
use Rattle.laws.specs.Prelude.{ℕ, subst, List, sub-zero, arith, length, take, length-take, lt_of_lt_of_le}
use Rattle.rules.specs.Calls.Answers.{ink_in}
use Rattle.radix.specs.Fronts.{Front}
use Rattle.classes.specs.Fast.Folds.{Folds, folds_classes}
use Rattle.classes.specs.Keys.{key_below}
use Rattle.classes.proofs.fast.folded.folded_firsts.Goals as goal

pub class_firsts-requires : goal.class_firsts-requires
class_firsts-requires c =
    let fold : let a = c.args in Folds (ink_in a.cells.now) (length a.cells.now) a.ys.now (ink_in c.fold_thrice-columns.new.to) c.fold_thrice-columns.result (take (length a.ys.now / 8 - 0) a.ys.now) = rw sub-zero c.fold_thrice-columns.ensures.1 in
    let ready = c.requires.0 in
    let width = c.key_width in (
      omega arith,
      ready.for_firsts,
      ready.for_links,
      ready.few,
      omega (arith, width.ensures.0, length-take (length c.args.ys.now / 8 - 0) c.args.ys.now),
      ready.no_chains,
      λ p. lt_of_lt_of_le (key_below 5 _ _ width.result p) ready.for_keys,
      λ i low k below. lt_of_lt_of_le (fold.within _ (ready.inside i low) k below)
          (omega (arith, c.fold_thrice-columns.ensures.0, c.requires.1)),
    )

pub returns : goal.returns
returns c =
    let fold : let a = c.args in Folds (ink_in a.cells.now) (length a.cells.now) a.ys.now (ink_in c.fold_thrice-columns.new.to) c.fold_thrice-columns.result (take (length a.ys.now / 8 - 0) a.ys.now) = rw sub-zero c.fold_thrice-columns.ensures.1 in
    subst (λ (l : List ℕ). Front (take c.args.enough l) c.class_firsts.result c.class_firsts.new.firsts)
    (folds_classes fold c.args.xs.now c.requires.0.inside) c.class_firsts.ensures
