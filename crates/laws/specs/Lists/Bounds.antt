-- Lists all of whose numbers are below a bound.
-- Assumes nothing.
use Rattle.std.specs.Prelude.{◌<◌, ◌≤◌, ◌≡◌, ◌∷◌, ◌++◌}
use Rattle.laws.specs.Prelude.{ℕ, suc, zero, true, List, [], map, arith, ltb, length, get_or, ltb-true}
use Rattle.rules.specs.Lists.{all}
use Rattle.laws.specs.Lists.Tests.{all_iff}

abbrev pub Below : ℕ → List ℕ → Type 0
Below b [] = Unit {0}
Below b (x ∷ xs) = (x < b) × Below b xs

pub below_at : (b : ℕ) (xs : List ℕ) → Below b xs → (k : ℕ) → k < length xs → get_or xs k 0 < b
below_at b [] h k l = absurd (omega arith)
below_at b (x ∷ xs) h zero l = h.0
below_at b (x ∷ xs) h (suc k) l = below_at b xs h.1 k (omega arith)

pub at_below : (b : ℕ) (xs : List ℕ) → ((k : ℕ) → k < length xs → get_or xs k 0 < b) → Below b xs
at_below b [] h = tt
at_below b (x ∷ xs) h = (h 0 (omega arith), at_below b xs (λ k l. h (suc k) (omega arith)))

pub below_append : (b : ℕ) (xs ys : List ℕ) → Below b xs → Below b ys → Below b (xs ++ ys)
below_append b [] ys h k = k
below_append b (x ∷ xs) ys h k = (h.0, below_append b xs ys h.1 k)

pub below_map : (b c : ℕ) (f : ℕ → ℕ) → ((x : ℕ) → x < b → f x < c) → (xs : List ℕ) → Below b xs → Below c (map f xs)
below_map b c f e [] h = tt
below_map b c f e (x ∷ xs) h = (e x h.0, below_map b c f e xs h.1)

pub below_more : (b c : ℕ) → b ≤ c → (xs : List ℕ) → Below b xs → Below c xs
below_more b c e [] h = tt
below_more b c e (x ∷ xs) h = (omega arith, below_more b c e xs h.1)

-- inks that pass the test are below m
pub inks_below : (m : ℕ) → 0 < m → (inks : List ℕ) → all (λ k. ltb k m) inks ≡ true → (p : ℕ) → get_or inks p 0 < m
inks_below m pos [] h p = pos
inks_below m pos (k ∷ inks) h zero = ltb-true k m ((all_iff (λ k. ltb k m) k inks).0 h).0
inks_below m pos (k ∷ inks) h (suc p) = inks_below m pos inks ((all_iff (λ k. ltb k m) k inks).0 h).1 p
