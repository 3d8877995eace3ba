-- The place of the first element that passes a test.
-- Assumes nothing.
use Rattle.std.specs.Prelude.{◌<◌, ◌≤◌, ◌+◌, ◌-◌, ◌≡◌, ◌||◌, ◌∷◌}
use Rattle.laws.specs.Prelude.{ℕ, suc, zero, ◌∙◌, sym, ap, refl, true, false, Bool, not, cond, false≢true, List, []}
use Rattle.laws.specs.Prelude.{map, zero-add, add-zero, suc-add, arith, ltb, leb-suc-suc, length, get_or, lt-ltb}
use Rattle.rules.specs.Lists.{range, any, first_place, all}
use Rattle.laws.specs.Lists.Tests.{any_cons}
use Rattle.laws.specs.Lists.Ranges.{range_length, range_at}

-- by the first element's test
pub first_cons : {A : Type 0} (test : A → Bool) (x : A) (xs : List A) → first_place test (x ∷ xs) ≡ cond (test x) zero (suc (first_place test xs))
unfolding first_place
first_cons test x xs =
    elim (test x) as (λ t. elim t [ true ↦ zero | false ↦ suc (first_place test xs) ] ≡ cond t zero (suc (first_place test xs))) [ true ↦ refl | false ↦ refl ]

first_none : {A : Type 0} (test : A → Bool) → first_place test [] ≡ 0
unfolding first_place
first_none test = refl

-- a test of a function's values
pub first_map : {A B : Type 0} (f : A → B) (test : B → Bool) (xs : List A) → first_place test (map f xs) ≡ first_place (λ x. test (f x)) xs
unfolding first_place
first_map f test [] = refl
first_map f test (x ∷ xs) =
    first_cons test (f x) (map f xs)
    ∙ ap (λ (k : ℕ). cond (test (f x)) zero (suc k)) (first_map f test xs)
    ∙ sym (first_cons (λ x. test (f x)) x xs)

module _ {A : Type 0} (test : A → Bool) (d : A) where
  -- no element before the first place passes
  pub before_first : (xs : List A) (k : ℕ) → k < first_place test xs → test (get_or xs k d) ≡ false
  before_first [] k h = absurd (omega (arith, first_none test))
  before_first (x ∷ xs) k h = go (test x) refl k (rw first_cons at h) (before_first xs)
    where
      go : (t : Bool) → test x ≡ t → (k : ℕ) → k < cond t zero (suc (first_place test xs))
          → ((k : ℕ) → k < first_place test xs → test (get_or xs k d) ≡ false) → test (get_or (x ∷ xs) k d) ≡ false
      go true e k h rest = absurd (omega arith)
      go false e zero h rest = e
      go false e (suc k) h rest = rest k (omega arith)

  -- the element at the first place passes
  pub at_first : (xs : List A) → first_place test xs < length xs → test (get_or xs (first_place test xs) d) ≡ true
  at_first [] h = absurd (omega arith)
  at_first (x ∷ xs) h = rw first_cons (go (test x) refl (rw first_cons at h) (at_first xs))
    where
      go : (t : Bool) → test x ≡ t → cond t zero (suc (first_place test xs)) < suc (length xs)
          → (first_place test xs < length xs → test (get_or xs (first_place test xs) d) ≡ true)
          → test (get_or (x ∷ xs) (cond t zero (suc (first_place test xs))) d) ≡ true
      go true e h rest = e
      go false e h rest = rest (omega arith)

  -- if one passes, the place is before the end
  first_below : (xs : List A) → any test xs ≡ true → first_place test xs < length xs
  unfolding any
  first_below [] h = absurd (false≢true h)
  first_below (x ∷ xs) h = rw first_cons (go (test x) (rw any_cons at h) (first_below xs))
    where
      go : (t : Bool) → (t || any test xs) ≡ true → (any test xs ≡ true → first_place test xs < length xs)
          → cond t zero (suc (first_place test xs)) < suc (length xs)
      go true h rest = omega arith
      go false h rest = omega (arith, rest h)

  -- .. and the element there passes
  pub first_passing : (xs : List A) → any test xs ≡ true → (first_place test xs < length xs) × (test (get_or xs (first_place test xs) d) ≡ true)
  first_passing xs h = (first_below xs h, at_first xs (first_below xs h))

-- the same for a range
pub first_passes : (test : ℕ → Bool) (from count : ℕ) → any test (range from count) ≡ true
    → (first_place test (range from count) < count) × (test (from + first_place test (range from count)) ≡ true)
first_passes test from count h =
    let (l, passes) = first_passing test 0 (range from count) h in
    let below : first_place test (range from count) < count = rw range_length at l in
    (below, rw (range_at from count (first_place test (range from count)) 0 below) at passes)

-- every element passes exactly if there is no first one that fails
pub all_place : (test : ℕ → Bool) (xs : List ℕ) → all test xs ≡ not (ltb (first_place (λ x. not (test x)) xs) (length xs))
unfolding all first_place
all_place test [] = refl
all_place test (x ∷ xs) = go (test x) (all_place test xs)
  where
    rest : ℕ
    rest = first_place (λ x. not (test x)) xs

    go : (b : Bool) → all test xs ≡ not (ltb rest (length xs))
        → elim b as (λ _. Bool) [ true ↦ all test xs | false ↦ false ]
        ≡ not (ltb (elim (not b) as (λ _. ℕ) [ true ↦ zero | false ↦ suc rest ]) (suc (length xs)))
    go true later = later ∙ ap not (sym (leb-suc-suc (suc rest) (length xs)))
    go false later = ap not (sym (lt-ltb zero (suc (length xs)) (omega arith)))

-- some element passes exactly if the first that does has a place before the end
pub any_place : (test : ℕ → Bool) (xs : List ℕ) → any test xs ≡ ltb (first_place test xs) (length xs)
unfolding any first_place
any_place test [] = refl
any_place test (x ∷ xs) = go (test x) (any_place test xs)
  where
    go : (b : Bool) → any test xs ≡ ltb (first_place test xs) (length xs)
        → elim b as (λ _. Bool) [ true ↦ true | false ↦ any test xs ]
        ≡ ltb (elim b as (λ _. ℕ) [ true ↦ zero | false ↦ suc (first_place test xs) ]) (suc (length xs))
    go true later = sym (lt-ltb zero (suc (length xs)) (omega arith))
    go false later = later ∙ sym (leb-suc-suc (suc (first_place test xs)) (length xs))

-- tests that agree over the range have the same first place
pub place_agree : (test other : ℕ → Bool) (a count : ℕ) → ((u : ℕ) → a ≤ u → u < a + count → test u ≡ other u)
    → first_place test (range a count) ≡ first_place other (range a count)
unfolding first_place range
place_agree test other a zero e = refl
place_agree test other a (suc count) e =
    let here = e a (omega arith) (omega arith) in
    let later = place_agree test other (suc a) count (λ u low high. e u (omega arith) (omega arith)) in
    λ i. elim (here i) as (λ _. ℕ) [ true ↦ zero | false ↦ suc (later i) ]

-- numbers that do not pass are skipped
pub skip : (test : ℕ → Bool) (a count more : ℕ) → ((u : ℕ) → a ≤ u → u < a + count → test u ≡ false)
    → a + first_place test (range a (count + more)) ≡ a + count + first_place test (range (a + count) more)
unfolding first_place range
skip test a zero more none = rw (zero-add, add-zero)
skip test a (suc count) more none =
    let later = skip test (suc a) count more (λ u low high. none u (omega arith) (omega arith)) in
    let here : test a ≡ false = none a (omega arith) (omega arith) in
    let end : a + suc count ≡ suc a + count = omega arith in
    rw (end, suc-add, here, first_place) (omega (arith, later))

-- the search stops at b if b passes
pub stop_at : (test : ℕ → Bool) (b c : ℕ) → b < c → test b ≡ true → b + first_place test (range b (c - b)) ≡ b
unfolding first_place range
stop_at test b c h e =
    let count : c - b ≡ suc (c - b - 1) = omega arith in
    rw (count, e, first_place) (add-zero b)

pub place_at_most : (test : ℕ → Bool) (xs : List ℕ) → first_place test xs ≤ length xs
unfolding first_place
place_at_most test [] = omega arith
place_at_most test (x ∷ xs) = elim (test x) as (λ b. elim b as (λ _. ℕ) [ true ↦ zero | false ↦ suc (first_place test xs) ] ≤ suc (length xs)) [
  | true ↦ omega (arith, place_at_most test xs)
  | false ↦ omega (arith, place_at_most test xs)
]
