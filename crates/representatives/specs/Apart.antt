-- Two rows and a column that distinguishes them.
-- Assumes nothing.
use Rattle.std.specs.Prelude.{◌+◌, ◌≡◌, ◌≢◌}
use Rattle.laws.specs.Prelude.{ℕ, ◌∙◌, sym, refl, subst, true, false, Bool, true≢false, List, get_or, eqb-true}
use Rattle.std.proofs.Math.Option.{Option, none, some}
use Rattle.rules.specs.Groups.Groups.{alike_over}
use Rattle.laws.specs.Lists.Tests.{all_mem}
use Rattle.laws.specs.Lists.Places.{mem_get_or}
use Rattle.rules.specs.Groups.Differences.{difference_over}
use Rattle.trees.specs.Groups.Differences.{none_differ, some_first}
use Rattle.representatives.specs.Columns.{Column}

-- r is a column, and p and q differ at it unless they are alike
pub record PlaceApart (f : ℕ → ℕ) (ys : List ℕ) (p q r : ℕ) : Type 0 where
  pub there : Column ys r
  pub differ : alike_over f ys p q ≡ false → f (p + r) ≢ f (q + r)

-- if a column distinguishes two rows, they are not alike, ..
pub unlike_at : (f : ℕ → ℕ) (ys : List ℕ) (p q y : ℕ) → Column ys y → f (p + y) ≢ f (q + y) → alike_over f ys p q ≡ false
unfolding alike_over
unlike_at f ys p q y (k, k<, here) differ = go (alike_over f ys p q) refl
  where
    go : (b : Bool) → alike_over f ys p q ≡ b → b ≡ false
    go true e = absurd (differ (subst (λ (x : ℕ). f (p + x) ≡ f (q + x)) here (eqb-true _ _ (all_mem _ (mem_get_or ys k 0 k<) e))))
    go false e = refl

-- .. and if two rows are not alike, some column distinguishes them
pub unlike_column : (f : ℕ → ℕ) (ys : List ℕ) (p q : ℕ) → alike_over f ys p q ≡ false → (y : ℕ) × (Column ys y) × (f (p + y) ≢ f (q + y))
unlike_column f ys p q unlike = go (difference_over f ys p q) refl
  where
    go : (o : Option ℕ) → difference_over f ys p q ≡ o → (y : ℕ) × (Column ys y) × (f (p + y) ≢ f (q + y))
    go none e = absurd (true≢false (sym ((none_differ f ys p q).0 e) ∙ unlike))
    go (some k) e = let first = ((some_first f ys p q k).0 e).place in (get_or ys k 0, (k, first.there, refl), first.differ)
