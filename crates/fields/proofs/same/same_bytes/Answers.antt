-- `fields::same::same_bytes` meets its contract: the library's equality of slices is that of lists.
-- Assumes nothing.
use Rattle.std.specs.Prelude.{◌≡◌, ◌&&◌, ◌∷◌}
use Rattle.std.specs.Cmp.Lexicographic.{pointwise}
use Rattle.laws.specs.Prelude.{ℕ, ◌∙◌, refl, Bool, true, false, List, [], eqb}
use Rattle.rules.specs.Lists.{same}
use Rattle.fields.proofs.same.same_bytes.Goals as goal

pointwise_same : (xs ys : List ℕ) → pointwise eqb xs ys ≡ same xs ys
unfolding same
pointwise_same [] [] = refl
pointwise_same [] (y ∷ ys) = refl
pointwise_same (x ∷ xs) [] = refl
pointwise_same (x ∷ xs) (y ∷ ys) = go (eqb x y) (pointwise_same xs ys)
  where
    go : (t : Bool) → pointwise eqb xs ys ≡ same xs ys → (t && pointwise eqb xs ys) ≡ elim t [ true ↦ same xs ys | false ↦ false ]
    go true e = e
    go false e = refl

pub returns : goal.returns
returns c = c.eq.ensures ∙ pointwise_same _ _
