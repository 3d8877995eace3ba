-- How many elements of a list pass a test, and how often a number occurs in a list.
-- Assumes nothing.
use Rattle.std.specs.Prelude.{◌<◌, ◌≤◌, ◌+◌, ◌≡◌, ◌∷◌, ◌++◌}
use Rattle.laws.specs.Prelude.{ℕ, suc, zero, refl, by_cases, true, false, Bool, List, [], map, dec_le, arith, eqb, length}
use Rattle.laws.specs.Prelude.{ne_eqb}
use Rattle.rules.specs.Lists.{range, any, those}
use Rattle.laws.specs.Lists.Tests.{one_where, one_if_le, none_iff}

-- how many pass
abbrev pub count : {A : Type 0} → (A → Bool) → List A → ℕ
count test xs = length (those test xs)

module _ {A : Type 0} (test : A → Bool) where
  pub count_cons : (x : A) (xs : List A) → count test (x ∷ xs) ≡ one_where (test x) + count test xs
  unfolding those
  count_cons x xs =
      elim (test x) as (λ t. length {A = A} (elim t [ true ↦ x ∷ those test xs | false ↦ those test xs ]) ≡ one_where t + count test xs) [
        | true ↦ omega arith
        | false ↦ omega arith
      ]

  pub count_append : (xs ys : List A) → count test (xs ++ ys) ≡ count test xs + count test ys
  unfolding those
  count_append [] ys = omega arith
  count_append (x ∷ xs) ys = omega (arith, count_cons x (xs ++ ys), count_cons x xs, count_append xs ys)

  pub count_none : (xs : List A) → count test xs ≡ 0 → any test xs ≡ false
  unfolding any
  count_none [] e = refl
  count_none (x ∷ xs) e = (none_iff test x xs).1 (fails (test x) (omega (arith, count_cons x xs)), count_none xs (omega (arith, count_cons x xs)))
    where
      fails : (t : Bool) → one_where t ≡ 0 → t ≡ false
      fails true e = absurd (omega arith)
      fails false e = refl

-- a test of a function's values
pub count_map : {A B : Type 0} (f : A → B) (test : B → Bool) (xs : List A) → count test (map f xs) ≡ count (λ x. test (f x)) xs
unfolding those
count_map f test [] = refl
count_map f test (x ∷ xs) = omega (arith, count_cons test (f x) (map f xs), count_cons (λ x. test (f x)) x xs, count_map f test xs)

-- ---- a number

-- how often r occurs in the list
abbrev pub times : ℕ → List ℕ → ℕ
times r xs = count (eqb r) xs

-- a different number does not count
pub not_one : (r x : ℕ) → (r ≡ x → ⊥) → one_where (eqb r x) ≡ 0
not_one r x ne = rw (ne_eqb r x ne)

-- a range has no number below its first
times_range_below : (r from k : ℕ) → r < from → times r (range from k) ≡ 0
unfolding range those
times_range_below r from zero h = refl
times_range_below r from (suc k) h =
    omega (arith, count_cons (eqb r) from (range (suc from) k), not_one r from (omega arith), times_range_below r (suc from) k (omega arith))

-- a range has each number at most once
pub times_range : (r from k : ℕ) → times r (range from k) ≤ 1
unfolding range those
times_range r from zero = omega arith
times_range r from (suc k) =
    by_cases (dec_le r from)
    (λ h. omega (arith, count_cons (eqb r) from (range (suc from) k), one_if_le (eqb r from), times_range_below r (suc from) k (omega arith)))
    (λ h. omega (arith, count_cons (eqb r) from (range (suc from) k), not_one r from (λ e. h (omega arith)), times_range r (suc from) k))
