-- The answer of comparing two assignments, in the definitions.
-- Assumes nothing.
use Rattle.std.specs.Prelude.{ℕ, ◌≡◌, List, Option, Some, None, is_some, Bool, true, false, not}
use Rattle.std.proofs.Math.Option.{none, some}
use Rattle.std.proofs.Math.Option as Math
use Rattle.laws.specs.Prelude.{sym, false≢true}
use Rattle.rules.specs.Groups.Groups.{alike_over}
use Rattle.rules.specs.Groups.Differences.{difference_over}
use Rattle.trees.specs.Groups.Differences.{none_differ, some_unlike}

abbrev pub difference_as : Option ℕ → Math.Option ℕ
difference_as None = none
difference_as (Some k) = some k

-- the two are alike if no difference is found: b is what `is_none` returns
pub none_alike : (f : ℕ → ℕ) (ys : List ℕ) (p q : ℕ) (r : Option ℕ) (b : Bool) → difference_as r ≡ difference_over f ys p q → is_some r ≡ not b
    → b ≡ alike_over f ys p q
none_alike f ys p q None true e t = sym ((none_differ f ys p q).0 (sym e))
none_alike f ys p q (Some k) false e t = sym (some_unlike f ys p q k (sym e))
none_alike f ys p q None false e t = absurd (false≢true t)
none_alike f ys p q (Some k) true e t = absurd (false≢true (sym t))
