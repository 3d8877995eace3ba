-- Laws of `same`: the same numbers in the same order.
-- Assumes nothing.
use Rattle.std.specs.Prelude.{◌<◌, ◌≤◌, ◌+◌, ◌≡◌, ◌&&◌, ◌∷◌}
use Rattle.laws.specs.Prelude.{ℕ, suc, ◌∙◌, sym, ap, refl, ap₂, true, false, Bool, and-eq-true_iff, false≢true, List, []}
use Rattle.laws.specs.Prelude.{add-one, eqb, length, get_or, drop, drop_of_length-le, drop-cons, eq-eqb, eqb-true, ne_eqb}
use Rattle.rules.specs.Lists.{same}
use Rattle.laws.specs.Lists.Tests.{two_ways}

-- the same first number, and the same others
same_cons : (x y : ℕ) (xs ys : List ℕ) → same (x ∷ xs) (y ∷ ys) ≡ (eqb x y && same xs ys)
unfolding same
same_cons x y xs ys = elim (eqb x y) as (λ t. elim t [ true ↦ same xs ys | false ↦ false ] ≡ (t && same xs ys)) [ true ↦ refl | false ↦ refl ]

-- a list is the same as itself
pub same_refl : (xs : List ℕ) → same xs xs ≡ true
unfolding same
same_refl [] = refl
same_refl (x ∷ xs) = rw (same_cons x x xs xs, eq-eqb x x refl, same_refl xs) refl

-- lists that are the same are equal
pub same_true : (xs ys : List ℕ) → same xs ys ≡ true → xs ≡ ys
unfolding same
same_true [] [] e = refl
same_true [] (y ∷ ys) e = absurd (false≢true e)
same_true (x ∷ xs) [] e = absurd (false≢true e)
same_true (x ∷ xs) (y ∷ ys) e =
    let (h, t) = (and-eq-true_iff (eqb x y) (same xs ys)).0 (sym (same_cons x y xs ys) ∙ e) in
    ap₂ ◌∷◌ (eqb-true x y h) (same_true xs ys t)

-- the order of the two lists does not matter
pub same_comm : (xs ys : List ℕ) → same xs ys ≡ same ys xs
same_comm xs ys = two_ways (same xs ys) (same ys xs) (turn xs ys) (turn ys xs)
  where
    turn : (xs ys : List ℕ) → same xs ys ≡ true → same ys xs ≡ true
    turn xs ys e = rw (same_true xs ys e) (same_refl ys)

-- nor does it for two numbers
pub eqb_comm : (x y : ℕ) → eqb x y ≡ eqb y x
eqb_comm x y = two_ways (eqb x y) (eqb y x) (turn x y) (turn y x)
  where
    turn : (x y : ℕ) → eqb x y ≡ true → eqb y x ≡ true
    turn x y e = eq-eqb y x (sym (eqb-true x y e))

pub same_length : (a b : List ℕ) → (length a ≡ length b → ⊥) → same a b ≡ false
unfolding same
same_length [] [] h = absurd (h refl)
same_length [] (y ∷ b) h = refl
same_length (x ∷ a) [] h = refl
same_length (x ∷ a) (y ∷ b) h =
    elim (eqb x y) as (λ t. elim t as (λ _. Bool) [ true ↦ same a b | false ↦ false ] ≡ false) [ true ↦ same_length a b (λ e. h (ap suc e)) | false ↦ refl ]

module _ (a b : List ℕ) (i : ℕ) (ha : i < length a) (hb : i < length b) where
  pub same_next : get_or a i 0 ≡ get_or b i 0 → same (drop i a) (drop i b) ≡ same (drop (i + 1) a) (drop (i + 1) b)
  unfolding same
  same_next e = rw (add-one, drop-cons a i 0, drop-cons b i 0, eq-eqb _ _ e, same)

  pub same_differs : (get_or a i 0 ≡ get_or b i 0 → ⊥) → same (drop i a) (drop i b) ≡ false
  unfolding same
  same_differs e = rw (drop-cons a i 0, drop-cons b i 0, ne_eqb _ _ e, same)

pub same_end : (a b : List ℕ) (i : ℕ) → length a ≤ i → length b ≤ i → same (drop i a) (drop i b) ≡ true
unfolding same
same_end a b i ha hb = rw (drop_of_length-le a ha, drop_of_length-le b hb)
