-- What is listed in `those`, and functions that agree on what is listed.
-- Assumes nothing.
use Rattle.std.specs.Prelude.{◌≡◌, ◌⊎◌, ◌∷◌}
use Rattle.laws.specs.Prelude.{◌∙◌, sym, ap, refl, ⊎_elim, true, false, Bool, false≢true, List, [], map, Memᴰ, mem_head}
use Rattle.laws.specs.Prelude.{mem_not_nil, mem_tail, mem_cases_cons}
use Rattle.rules.specs.Lists.{those}

module _ {A : Type 0} (test : A → Bool) where
  -- an element that passes is in `those`, ..
  pub mem_those : (x : A) (xs : List A) → Memᴰ x xs → test x ≡ true → Memᴰ x (those test xs)
  unfolding those
  mem_those x [] is passes = is
  mem_those x (y ∷ xs) is passes = go (test y) refl (mem_cases_cons is) (mem_those x xs)
    where
      go : (b : Bool) → test y ≡ b → (x ≡ y) ⊎ Memᴰ x xs → (Memᴰ x xs → test x ≡ true → Memᴰ x (those test xs))
          → Memᴰ x (elim b as (λ _. List A) [ true ↦ y ∷ those test xs | false ↦ those test xs ])
      go true e here later = ⊎_elim (λ same. mem_head same) (λ i. mem_tail (later i passes)) here
      go false e here later = ⊎_elim (λ same. absurd (false≢true (sym e ∙ ap test (sym same) ∙ passes))) (λ i. later i passes) here

  -- .. and each element of `those` passes
  pub those_pass : (x : A) (xs : List A) → Memᴰ x (those test xs) → test x ≡ true
  unfolding those
  those_pass x [] is = absurd (mem_not_nil is)
  those_pass x (y ∷ xs) is = go (test y) refl is (those_pass x xs)
    where
      go : (b : Bool) → test y ≡ b → Memᴰ x (elim b as (λ _. List A) [ true ↦ y ∷ those test xs | false ↦ those test xs ])
          → (Memᴰ x (those test xs) → test x ≡ true) → test x ≡ true
      go true e is later = ⊎_elim (λ same. ap test same ∙ e) later (mem_cases_cons is)
      go false e is later = later is

-- two functions that agree on what is listed
pub map_listed : {A B : Type 0} (f h : A → B) (xs : List A) → ((x : A) → Memᴰ x xs → f x ≡ h x) → map f xs ≡ map h xs
map_listed f h [] e = refl
map_listed f h (x ∷ xs) e = λ i. e x (mem_head refl) i ∷ map_listed f h xs (λ y m. e y (mem_tail m)) i

-- two tests that agree on what is listed
pub those_listed : {A : Type 0} (s t : A → Bool) (xs : List A) → ((x : A) → Memᴰ x xs → s x ≡ t x) → those s xs ≡ those t xs
unfolding those
those_listed s t [] e = refl
those_listed {A} s t (x ∷ xs) e =
    let later = those_listed s t xs (λ y m. e y (mem_tail m)) in
    λ i. elim (e x (mem_head refl) i) as (λ _. List A) [ true ↦ x ∷ later i | false ↦ later i ]
