-- `classes::fast::fold::fold_thrice` meets its contract: each fold halves the columns. Assumes nothing.
use Rattle.std.specs.Prelude.{◌/◌, ◌≡◌}
use Rattle.laws.specs.Prelude.{ℕ, subst₂, List, arith, length, take, take-length}
use Rattle.rules.specs.Calls.Answers.{ink_in}
use Rattle.classes.specs.Fast.Folds.{Folds, folds_both}
use Rattle.classes.specs.Fast.Halves.{half_nested, half_folds}
use Rattle.classes.proofs.fast.fold.fold_thrice.Goals as goal

pub returns : goal.returns
returns c =
    let ys = c.args.ys.now in
    let h = length ys in
    let once = half_nested ys h (omega arith) (omega (arith, c.requires.4)) c.requires.3 in
    let twice = half_nested ys (h / 2) (omega arith) (omega (arith, c.requires.4)) once in
    let eighth : h / 2 / 2 / 2 ≡ h / 8 = omega arith in (
      omega (arith, c.pair_inks-first.ensures.count, c.pair_inks-second.ensures.count, c.pair_inks.ensures.count),
      subst₂ (λ (l : List ℕ) (k : ℕ). Folds (ink_in c.args.cells.now) (length c.args.cells.now) l
          (ink_in c.pair_inks.new.to) c.pair_inks.result (take k ys)) (take-length ys) eighth
          (folds_both (half_folds ys h (omega arith) (omega (arith, c.requires.4)) c.requires.3 (λ k h. c.requires.2 k) c.pair_inks-first.ensures)
          (folds_both (half_folds ys (h / 2) (omega arith) (omega (arith, c.requires.4)) once c.pair_inks-first.ensures.small c.pair_inks-second.ensures)
          (half_folds ys (h / 2 / 2) (omega arith) (omega (arith, c.requires.4)) twice c.pair_inks-second.ensures.small c.pair_inks.ensures))),
    )
