-- The largest of some numbers (`most`) and the smallest (`least`): it bounds them all, and is one of them.
-- Assumes nothing.
use Rattle.std.specs.Prelude.{◌<◌, ◌≤◌, ◌*◌, ◌≡◌, ◌∷◌, ◌++◌}
use Rattle.laws.specs.Prelude.{ℕ, suc, max, ◌∙◌, sym, ap, refl, ⊎_elim, List, [], map, Memᴰ, mem_head}
use Rattle.laws.specs.Prelude.{mem_not_nil, mem_tail, mem_cases_cons, mem_cast, mul-le-mul_right, max-eq_left, max-eq_right}
use Rattle.laws.specs.Prelude.{max-zero, arith, max_cases, min_cases, length}
use Rattle.rules.specs.Nets.Layers.{most}
use Rattle.rules.specs.Nets.Shallow.{least}

-- ---- the largest

-- none is larger, ..
pub most_bounds : (x : ℕ) (xs : List ℕ) → Memᴰ x xs → x ≤ most xs
unfolding most
most_bounds x [] is = absurd (mem_not_nil is)
most_bounds x (y ∷ xs) is = ⊎_elim (λ e. omega arith) (λ later. omega (arith, most_bounds x xs later)) (mem_cases_cons is)

-- .. and it is one of them
pub most_listed : (xs : List ℕ) → 0 < length xs → Memᴰ (most xs) xs
unfolding most
most_listed [] some = absurd (omega arith)
most_listed (x ∷ []) some = mem_head (max-zero x)
most_listed (x ∷ y ∷ xs) some =
    max_cases x (most (y ∷ xs)) _
    (λ _ later. mem_tail (mem_cast later (most_listed (y ∷ xs) (omega arith))))
    (λ _ first. mem_head first)

-- for two lists joined
pub most_append : (xs ys : List ℕ) → most (xs ++ ys) ≡ max (most xs) (most ys)
unfolding most
most_append [] ys = omega arith
most_append (x ∷ xs) ys = omega (arith, most_append xs ys)

-- for numbers each increased by one
pub most_suc : (xs : List ℕ) → 0 < length xs → most (map suc xs) ≡ suc (most xs)
unfolding most
most_suc [] some = absurd (omega arith)
most_suc (x ∷ []) some = omega arith
most_suc (x ∷ y ∷ xs) some = omega (arith, most_suc (y ∷ xs) (omega arith))

-- for larger numbers
pub most_more : {A : Type 0} (f h : A → ℕ) (xs : List A) → ((x : A) → Memᴰ x xs → f x ≤ h x) → most (map f xs) ≤ most (map h xs)
unfolding most
most_more f h [] less = omega arith
most_more f h (x ∷ xs) less =
    omega (arith, less x (mem_head refl), most_more f h xs (λ y is. less y (mem_tail is)))

-- for the same numbers
pub most_same : {A : Type 0} (f h : A → ℕ) (xs : List A) → ((x : A) → Memᴰ x xs → f x ≡ h x) → most (map f xs) ≡ most (map h xs)
most_same f h xs same =
    omega (arith, most_more f h xs (λ x is. omega (arith, same x is)), most_more h f xs (λ x is. omega (arith, same x is)))

-- for numbers each multiplied by k
pub most_times : {A : Type 0} (f : A → ℕ) (k : ℕ) (xs : List A) → most (map (λ x. f x * k) xs) ≡ most (map f xs) * k
unfolding most
most_times f k [] = omega arith
most_times f k (x ∷ xs) = rw (most_times f k xs) (go (f x) (most (map f xs)))
  where
    go : (a b : ℕ) → max (a * k) (b * k) ≡ max a b * k
    go a b =
        max_cases a b _
        (λ le e. max-eq_right (mul-le-mul_right k le) ∙ ap (λ (c : ℕ). c * k) (sym e))
        (λ le e. max-eq_left (mul-le-mul_right k le) ∙ ap (λ (c : ℕ). c * k) (sym e))

-- ---- the smallest

-- none is smaller, ..
pub least_bounds : (x : ℕ) (xs : List ℕ) → Memᴰ x xs → least xs ≤ x
unfolding least
least_bounds x [] is = absurd (mem_not_nil is)
least_bounds x (y ∷ []) is = ⊎_elim (λ e. omega arith) (λ later. absurd (mem_not_nil later)) (mem_cases_cons is)
least_bounds x (y ∷ z ∷ xs) is =
    ⊎_elim (λ e. omega arith) (λ later. omega (arith, least_bounds x (z ∷ xs) later)) (mem_cases_cons is)

-- .. and it is one of them
pub least_listed : (xs : List ℕ) → 0 < length xs → Memᴰ (least xs) xs
unfolding least
least_listed [] some = absurd (omega arith)
least_listed (x ∷ []) some = mem_head refl
least_listed (x ∷ y ∷ xs) some =
    min_cases x (least (y ∷ xs)) _
    (λ _ first. mem_head first)
    (λ _ later. mem_tail (mem_cast later (least_listed (y ∷ xs) (omega arith))))
