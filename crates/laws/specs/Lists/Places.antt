-- Lists read by place.
-- Assumes nothing.
use Rattle.std.specs.Prelude.{◌<◌, ◌≡◌, ◌∷◌, ◌++◌}
use Rattle.laws.specs.Prelude.{ℕ, suc, zero, sym, refl, inl, inr, List, [], map, Memᴰ, mem_head, mem_not_nil}
use Rattle.laws.specs.Prelude.{mem_tail, mem_cases_cons, le_of_suc-le-suc, not-suc-le-zero, arith, length, get_or, length-append}

-- the element at a place is listed
pub mem_get_or {ℓ} : {A : Type ℓ} (xs : List A) (i : ℕ) (d : A) → i < length xs → Memᴰ (get_or xs i d) xs
mem_get_or [] i d h = absurd (not-suc-le-zero h)
mem_get_or (x ∷ xs) zero d h = mem_head refl
mem_get_or (x ∷ xs) (suc i) d h = mem_tail (mem_get_or xs i d (le_of_suc-le-suc h))

-- a function's value at a place of a list
pub map_at : {A B : Type 0} (f : A → B) (xs : List A) (i : ℕ) (d : A) (e : B) → i < length xs → get_or (map f xs) i e ≡ f (get_or xs i d)
map_at f [] i d e h = absurd (not-suc-le-zero h)
map_at f (x ∷ xs) zero d e h = refl
map_at f (x ∷ xs) (suc i) d e h = map_at f xs i d e (le_of_suc-le-suc h)

-- one more element at the end
module _ {A : Type 0} where
  pub length_snoc : (xs : List A) (x : A) → length (xs ++ (x ∷ [])) ≡ suc (length xs)
  length_snoc xs x = omega (arith, length-append xs (x ∷ []))

  -- a property of each place of a list and of one more element
  pub each_snoc : (P : A → Type 0) (d : A) (xs : List A) (x : A) → ((i : ℕ) → i < length xs → P (get_or xs i d)) → P x
      → (i : ℕ) → i < length (xs ++ (x ∷ [])) → P (get_or (xs ++ (x ∷ [])) i d)
  each_snoc P d [] x each new zero h = new
  each_snoc P d [] x each new (suc i) h = absurd (omega arith)
  each_snoc P d (y ∷ xs) x each new zero h = each zero (omega arith)
  each_snoc P d (y ∷ xs) x each new (suc i) h =
      each_snoc P d xs x (λ j k. each (suc j) (omega arith)) new i (le_of_suc-le-suc h)

-- a field of one byte
pub one_byte : (w : List ℕ) → length w ≡ 1 → w ≡ get_or w 0 0 ∷ []
one_byte [] e = absurd (omega arith)
one_byte (b ∷ []) e = refl
one_byte (b ∷ d ∷ w) e = absurd (omega arith)

-- an element that is listed has a place
pub mem_place : (x : ℕ) (xs : List ℕ) → Memᴰ x xs → (k : ℕ) × (k < length xs) × (get_or xs k 0 ≡ x)
mem_place x [] is = absurd (mem_not_nil is)
mem_place x (y ∷ xs) is = elim (mem_cases_cons is) [
  | inl e ↦ (zero, omega arith, sym e)
  | inr is ↦ let at = mem_place x xs is in (suc at.0, omega (arith, at.1), at.2)
]
