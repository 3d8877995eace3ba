-- Two tests that agree on a list give the same results on it: whether all pass, where the first passes, and the first of each class.
-- Assumes nothing.
use Rattle.std.specs.Prelude.{◌≡◌, ◌∷◌, ◌++◌}
use Rattle.laws.specs.Prelude.{suc, ap, refl, subst⁻¹, ⊎_elim, true, false, Bool, List, [], Memᴰ, mem_head, mem_tail}
use Rattle.laws.specs.Prelude.{mem_append_cases, mem_eq_of_singleton}
use Rattle.rules.specs.Groups.Groups.{firsts}
use Rattle.rules.specs.Lists.{all, any, first_place}
use Rattle.laws.specs.Lists.Tests.{any_same, by_test}

-- equal tests select equal things
chosen : {A : Type 0} {s t : Bool} {a b x y : A} → s ≡ t → a ≡ x → b ≡ y
    → ◌≡◌ {A = A} (elim s [ true ↦ a | false ↦ b ]) (elim t [ true ↦ x | false ↦ y ])
chosen {A} {t} {a} {b} {x} {y} test first second = rw test (by t)
  where
    by : (t : Bool) → ◌≡◌ {A = A} (elim t [ true ↦ a | false ↦ b ]) (elim t [ true ↦ x | false ↦ y ])
    by true = first
    by false = second

-- something holds for every element
abbrev pub Each : {A : Type 0} → (A → Type 0) → List A → Type 0
Each {A} P xs = (x : A) → Memᴰ x xs → P x

-- for all but the first
others_have : {A : Type 0} {P : A → Type 0} {x : A} {xs : List A} → Each P (x ∷ xs) → Each P xs
others_have each y is = each y (mem_tail is)

-- for one more
snoc_has : {A : Type 0} {P : A → Type 0} (xs : List A) (x : A) → Each P xs → P x → Each P (xs ++ (x ∷ []))
snoc_has {P} xs x before own y is =
    ⊎_elim (before y) (λ last. subst⁻¹ P (mem_eq_of_singleton last) own) (mem_append_cases xs is)

-- if two tests agree on a list, all of it passes both or neither, ..
pub all_same : {A : Type 0} (s t : A → Bool) (xs : List A) → Each (λ x. s x ≡ t x) xs → all s xs ≡ all t xs
unfolding all
all_same s t [] agree = refl
all_same s t (x ∷ xs) agree = chosen (agree x (mem_head refl)) (all_same s t xs (others_have agree)) refl

-- .. and the first that passes has the same place
pub place_same : {A : Type 0} (s t : A → Bool) (xs : List A) → Each (λ x. s x ≡ t x) xs → first_place s xs ≡ first_place t xs
unfolding first_place
place_same s t [] agree = refl
place_same s t (x ∷ xs) agree = chosen (agree x (mem_head refl)) refl (ap suc (place_same s t xs (others_have agree)))

-- tests of two elements that agree on what has P keep the same firsts
pub firsts_same : {A : Type 0} (P : A → Type 0) (s t : A → A → Bool) → ((x y : A) → P x → P y → s x y ≡ t x y)
    → (kept ps : List A) → Each P kept → Each P ps → firsts s kept ps ≡ firsts t kept ps
unfolding firsts
firsts_same P s t agree kept [] before later = refl
firsts_same P s t agree kept (p ∷ ps) before later =
    let own = later p (mem_head refl) in
    chosen (any_same (s p) (t p) kept (λ y is. agree p y own (before y is)))
    (firsts_same P s t agree kept ps before (others_have later))
    (firsts_same P s t agree (kept ++ (p ∷ [])) ps (snoc_has kept p before own) (others_have later))

-- and what they keep of elements with P has P
pub firsts_have : {A : Type 0} (P : A → Type 0) (s : A → A → Bool) (kept ps : List A) → Each P kept → Each P ps → Each P (firsts s kept ps)
unfolding firsts
firsts_have P s kept [] before later = before
firsts_have P s kept (p ∷ ps) before later =
    by_test (Each P) (any (s p) kept) _ _ (firsts_have P s kept ps before (others_have later))
    (firsts_have P s (kept ++ (p ∷ [])) ps (snoc_has kept p before (later p (mem_head refl))) (others_have later))
