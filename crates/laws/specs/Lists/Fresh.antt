-- Things in sequence, each unlike those before it.
-- Assumes nothing.
use Rattle.std.specs.Prelude.{◌≡◌, ◌↔◌, ◌∷◌, ◌++◌}
use Rattle.laws.specs.Prelude.{◌∙◌, refl, false, Bool, List, []}
use Rattle.rules.specs.Lists.{any}
use Rattle.laws.specs.Lists.Tests.{none_iff, none_snoc}

module _ {A : Type 0} (alike : A → A → Bool) where
  -- no later one is like an earlier one
  abbrev pub Fresh : List A → List A → Type 0
  Fresh earlier [] = Unit {0}
  Fresh earlier (x ∷ xs) = (any (alike x) earlier ≡ false) × Fresh earlier xs

  -- with nothing before, they are fresh
  pub fresh_first : (xs : List A) → Fresh [] xs
  unfolding any
  fresh_first [] = tt
  fresh_first (x ∷ xs) = (refl, fresh_first xs)

  module _ (turned : (x y : A) → alike x y ≡ alike y x) where
    -- fresh after one more: no later one is like that one either
    pub fresh_last : (earlier : List A) (x : A) (xs : List A) → Fresh (earlier ++ (x ∷ [])) xs ↔ ((any (alike x) xs ≡ false) × Fresh earlier xs)
    unfolding any
    fresh_last earlier x [] = (λ h. (refl, tt), λ h. tt)
    fresh_last earlier x (y ∷ ys) = (
      λ h.
          let (i, j) = (none_snoc (alike y) earlier x).0 h.0 in
          let (k, l) = (fresh_last earlier x ys).0 h.1 in
          ((none_iff (alike x) y ys).1 (turned x y ∙ j, k), (i, l)),
      λ h.
          let (i, j) = (none_iff (alike x) y ys).0 h.0 in
          ((none_snoc (alike y) earlier x).1 (h.1.0, turned y x ∙ i), (fresh_last earlier x ys).1 (j, h.1.1)),
    )
