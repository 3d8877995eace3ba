-- `representatives::rows::heads_apart` meets its contract: the first place that differs is a column. Assumes nothing.
use Rattle.std.proofs.Math.Option.{some}
use Rattle.std.specs.Prelude.{◌≡◌}
use Rattle.laws.specs.Prelude.{ℕ, sym, refl, arith, List}
use Rattle.rules.specs.Groups.Differences.{difference_over}
use Rattle.trees.specs.Groups.Differences.{Differ, none_differ, some_first}
use Rattle.representatives.proofs.rows.heads_apart.Goals as goal

-- at the place found, the inks differ
placed : {f : ℕ → ℕ} {ys : List ℕ} {p q k : ℕ} → some k ≡ difference_over f ys p q → Differ f ys p q k
placed e = ((some_first _ _ _ _ _).0 (sym e)).place

pub returns-in_err-k : goal.returns-in_err-k
returns-in_err-k c = rw c.from_residual.ensures ((none_differ _ _ _ _).0 (sym c.in_err-k.ensures))

pub bounds-heads-k : goal.bounds-heads-k
bounds-heads-k c = (placed c.in_ok-k.ensures).there

pub offset_bounds-heads-k : goal.offset_bounds-heads-k
offset_bounds-heads-k c = omega (arith, (placed c.in_ok-k.ensures).there)

pub returns : goal.returns
returns c = let at = placed c.in_ok-k.ensures in ((c.in_ok-k.k, at.there, refl), at.differ)
