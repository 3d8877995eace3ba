-- Laws of `range`.
-- Assumes nothing.
use Rattle.std.specs.Prelude.{◌<◌, ◌≤◌, ◌+◌, ◌-◌, ◌≡◌, ◌∷◌, ◌++◌}
use Rattle.laws.specs.Prelude.{ℕ, suc, zero, ◌∙◌, sym, ap, refl, inl, inr, List, [], map, Memᴰ, mem_head}
use Rattle.laws.specs.Prelude.{mem_not_nil, mem_tail, mem_cases_cons, map-append, zero-add, add-zero, suc-add, add-suc}
use Rattle.laws.specs.Prelude.{eq-or-lt_of_le, add-one, arith, length, get_or, length-map, replicate, ext_get_or}
use Rattle.rules.specs.Lists.{range}
use Rattle.laws.specs.Lists.Places.{map_at}

pub range_length : (from count : ℕ) → length (range from count) ≡ count
unfolding range
range_length from zero = refl
range_length from (suc count) = ap suc (range_length (suc from) count)

pub map_range_length : {A : Type 0} (f : ℕ → A) (from count : ℕ) → length (map f (range from count)) ≡ count
map_range_length f from count = length-map (range from count) f ∙ range_length from count

-- in two parts
pub range_append : (from j k : ℕ) → range from (j + k) ≡ range from j ++ range (from + j) k
unfolding range
range_append from zero k = rw (zero-add, add-zero)
range_append from (suc j) k = rw (suc-add, range_append (suc from) j k, suc-add, add-suc)

-- one more at the end
pub range_suc : (from count : ℕ) → range from (suc count) ≡ range from count ++ ((from + count) ∷ [])
unfolding range
range_suc from count = ap (range from) (sym (add-one count)) ∙ range_append from count 1

pub map_range_suc : {A : Type 0} (f : ℕ → A) (count : ℕ) → map f (range 0 (suc count)) ≡ map f (range 0 count) ++ (f count ∷ [])
map_range_suc f count = rw (range_suc, map-append, zero-add)

-- each number one more
pub range_shift : (from count : ℕ) → range (suc from) count ≡ map suc (range from count)
unfolding range
range_shift from zero = refl
range_shift from (suc count) = ap {B = List ℕ} (λ r. suc from ∷ r) (range_shift (suc from) count)

-- a range by its ends: its first number and the rest, ..
pub range_next : (i end : ℕ) → i < end → range i (end - i) ≡ i ∷ range (i + 1) (end - (i + 1))
unfolding range
range_next i end h = let counted : end - i ≡ suc (end - (i + 1)) = omega arith in rw (counted, add-one)

-- .. or nothing
pub range_none : (i end : ℕ) → end ≤ i → range i (end - i) ≡ []
unfolding range
range_none i end h = let none_left : end - i ≡ 0 = omega arith in rw none_left

-- numbers moved up
pub map_range : (a from count : ℕ) → map (λ l. a + l) (range from count) ≡ range (a + from) count
unfolding range
map_range a from zero = refl
map_range a from (suc count) = rw (map_range a (suc from) count, add-suc)

-- two functions that agree on a range
pub map_range_same : {A : Type 0} (f h : ℕ → A) (from count : ℕ) → ((i : ℕ) → from ≤ i → i < from + count → f i ≡ h i)
    → map f (range from count) ≡ map h (range from count)
unfolding range
map_range_same f h from zero e = refl
map_range_same f h from (suc count) e =
    λ i. e from (omega arith) (omega arith) i ∷ map_range_same f h (suc from) count (λ k l u. e k (omega arith) (omega arith)) i

-- one value for the whole range
pub map_range_all : {A : Type 0} (a : A) (from count : ℕ) → map (λ _. a) (range from count) ≡ replicate count a
unfolding range
map_range_all a from zero = refl
map_range_all a from (suc count) = ap {B = List _} (λ r. a ∷ r) (map_range_all a (suc from) count)

-- ---- what is listed, and where

pub range_at : (from count k d : ℕ) → k < count → get_or (range from count) k d ≡ from + k
unfolding range
range_at from zero k d h = absurd (omega arith)
range_at from (suc count) zero d h = sym (add-zero from)
range_at from (suc count) (suc k) d h = range_at (suc from) count k d (omega arith) ∙ omega arith

pub map_range_at : {A : Type 0} (f : ℕ → A) (from count k : ℕ) (d : A) → k < count → get_or (map f (range from count)) k d ≡ f (from + k)
map_range_at f from count k d h = map_at f (range from count) k 0 d (rw range_length h) ∙ ap f (range_at from count k 0 h)

-- a list is its elements place by place
pub by_places : {A : Type 0} (d : A) (xs : List A) → map (λ i. get_or xs i d) (range 0 (length xs)) ≡ xs
by_places d xs =
    ext_get_or d (map (λ i. get_or xs i d) (range 0 (length xs))) xs (map_range_length (λ i. get_or xs i d) 0 (length xs))
    (λ i h. map_range_at (λ i. get_or xs i d) 0 (length xs) i d (rw map_range_length at h) ∙ ap (λ k. get_or xs k d) (zero-add i))

-- a number between the ends is listed, ..
pub mem_range : (from count x : ℕ) → from ≤ x → x < from + count → Memᴰ x (range from count)
unfolding range
mem_range from zero x l h = absurd (omega arith)
mem_range from (suc count) x l h = elim (eq-or-lt_of_le l) [
  | inl e ↦ mem_head (sym e)
  | inr l' ↦ mem_tail (mem_range (suc from) count x l' (omega arith))
]

-- .. and no other
pub range_mem : (from count x : ℕ) → Memᴰ x (range from count) → (from ≤ x) × (x < from + count)
unfolding range
range_mem from zero x h = absurd (mem_not_nil h)
range_mem from (suc count) x h = elim (mem_cases_cons h) [
  | inl e ↦ omega arith
  | inr i ↦ let r = range_mem (suc from) count x i in omega arith
]
