-- Laws of tests: two tests together, and the tests of lists (`all`, `any`).
-- Assumes nothing.
use Rattle.std.specs.Prelude.{◌<◌, ◌≤◌, ◌+◌, ◌≡◌, ◌↔◌, ◌&&◌, ◌||◌, ◌∷◌, ◌++◌}
use Rattle.laws.specs.Prelude.{ℕ, suc, ◌∙◌, sym, ap, refl, ap₂, true, false, Bool, true≢false, and-eq-true_iff, cond}
use Rattle.laws.specs.Prelude.{or-false, or_assoc, List, [], map, Memᴰ, mem_head, mem_tail, arith, eqb, leb, length}
use Rattle.laws.specs.Prelude.{get_or, eq-eqb, eqb-true, ne_eqb, le-leb, leb-true, test_cases}
use Rattle.rules.specs.Lists.{all, any}

-- ---- Booleans

-- what is not false is true
pub not_false_true : (b : Bool) → (b ≡ false → ⊥) → b ≡ true
not_false_true true h = refl
not_false_true false h = absurd (h refl)

-- .. and what is not true is false
pub not_true_false : (b : Bool) → (b ≡ true → ⊥) → b ≡ false
not_true_false true h = absurd (h refl)
not_true_false false h = refl

-- neither of two tests passes
pub or_false_iff : (a b : Bool) → ((a || b) ≡ false) ↔ ((a ≡ false) × (b ≡ false))
or_false_iff true b = (λ e. absurd (true≢false e), λ k. absurd (true≢false k.0))
or_false_iff false b = (λ e. (refl, e), λ k. k.1)

-- if each of two tests passes whenever the other does, they are equal
pub two_ways : (a b : Bool) → (a ≡ true → b ≡ true) → (b ≡ true → a ≡ true) → a ≡ b
two_ways true b h k = sym (h refl)
two_ways false true h k = k refl
two_ways false false h k = refl

-- two orders, tested together
pub both_leb : (a b c d : ℕ) → ((leb a b && leb c d) ≡ true) ↔ ((a ≤ b) × (c ≤ d))
both_leb a b c d = (
  λ e.
      let (i, j) = (and-eq-true_iff (leb a b) (leb c d)).0 e in
      (leb-true a b i, leb-true c d j),
  λ (h, k). (and-eq-true_iff (leb a b) (leb c d)).1 (le-leb a b h, le-leb c d k),
)

-- two equations, tested together
pub both_eqb : (a b c d : ℕ) → ((eqb a b && eqb c d) ≡ true) ↔ ((a ≡ b) × (c ≡ d))
both_eqb a b c d = (
  λ e.
      let (i, j) = (and-eq-true_iff (eqb a b) (eqb c d)).0 e in
      (eqb-true a b i, eqb-true c d j),
  λ (h, k). (and-eq-true_iff (eqb a b) (eqb c d)).1 (eq-eqb a b h, eq-eqb c d k),
)

-- a number is not equal to both of two that differ
pub not_both : (c a b : ℕ) → (a ≡ b → ⊥) → (eqb c a && eqb c b) ≡ false
not_both c a b differ =
    test_cases (eqb c a) (λ e. rw e (ne_eqb c b (λ q. differ (sym (eqb-true c a e) ∙ q)))) (λ e. rw e)

-- a test as a count
abbrev pub one_where : Bool → ℕ
one_where t = cond t 1 0

pub one_if_le : (t : Bool) → one_where t ≤ 1
one_if_le true = omega arith
one_if_le false = omega arith

-- at most one of two tests passes
pub one_if_or : (s t : Bool) → (s && t) ≡ false → one_where (s || t) ≡ one_where s + one_where t
one_if_or true true e = cc
one_if_or true false e = refl
one_if_or false t e = omega arith

-- ---- all of a list, any of a list

module _ {A : Type 0} (test : A → Bool) where
  -- the first passes, and all the others
  pub all_cons : (x : A) (xs : List A) → all test (x ∷ xs) ≡ (test x && all test xs)
  unfolding all
  all_cons x xs = elim (test x) as (λ t. elim t [ true ↦ all test xs | false ↦ false ] ≡ (t && all test xs)) [ true ↦ refl | false ↦ refl ]

  -- the first passes, or any of the others
  pub any_cons : (x : A) (xs : List A) → any test (x ∷ xs) ≡ (test x || any test xs)
  unfolding any
  any_cons x xs = elim (test x) as (λ t. elim t [ true ↦ true | false ↦ any test xs ] ≡ (t || any test xs)) [ true ↦ refl | false ↦ refl ]

  -- all pass: the first, and all the others
  pub all_iff : (x : A) (xs : List A) → (all test (x ∷ xs) ≡ true) ↔ ((test x ≡ true) × (all test xs ≡ true))
  all_iff x xs = rw all_cons (and-eq-true_iff (test x) (all test xs))

  -- none passes: not the first, and none of the others
  pub none_iff : (x : A) (xs : List A) → (any test (x ∷ xs) ≡ false) ↔ ((test x ≡ false) × (any test xs ≡ false))
  none_iff x xs = rw any_cons (or_false_iff (test x) (any test xs))

  -- any of two lists joined
  any_append : (xs ys : List A) → any test (xs ++ ys) ≡ (any test xs || any test ys)
  unfolding any
  any_append [] ys = refl
  any_append (x ∷ xs) ys = rw (any_cons x (xs ++ ys), any_cons x xs, any_append xs ys) (sym (or_assoc (test x) (any test xs) (any test ys)))

  -- none of two lists joined
  pub none_append : (xs ys : List A) → (any test (xs ++ ys) ≡ false) ↔ ((any test xs ≡ false) × (any test ys ≡ false))
  none_append xs ys = rw any_append (or_false_iff (any test xs) (any test ys))

  -- none of a list and one more element
  pub none_snoc : (xs : List A) (x : A) → (any test (xs ++ (x ∷ [])) ≡ false) ↔ ((any test xs ≡ false) × (test x ≡ false))
  unfolding any
  none_snoc xs x = rw (any_append xs (x ∷ []), any_cons x [], or-false) (or_false_iff (any test xs) (test x))

  -- all of two lists joined
  pub all_append : (xs ys : List A) → all test xs ≡ true → all test ys ≡ true → all test (xs ++ ys) ≡ true
  all_append [] ys d e = e
  all_append (x ∷ xs) ys d e = (all_iff x (xs ++ ys)).1 (((all_iff x xs).0 d).0, all_append xs ys ((all_iff x xs).0 d).1 e)

  -- if all pass, each does, ..
  pub all_mem : {x : A} {xs : List A} → Memᴰ x xs → all test xs ≡ true → test x ≡ true
  all_mem (mem_head {x = z} {xs} e) h = ap test e ∙ ((all_iff z xs).0 h).0
  all_mem (mem_tail {x = z} {xs} i) h = all_mem i ((all_iff z xs).0 h).1

  -- .. and conversely
  pub mem_all : (xs : List A) → ((x : A) → Memᴰ x xs → test x ≡ true) → all test xs ≡ true
  unfolding all
  mem_all [] h = refl
  mem_all (x ∷ xs) h = (all_iff x xs).1 (h x (mem_head refl), mem_all xs (λ z i. h z (mem_tail i)))

  -- the same by place
  pub all_each : (d : A) (xs : List A) → ((k : ℕ) → k < length xs → test (get_or xs k d) ≡ true) → all test xs ≡ true
  unfolding all
  all_each d [] h = refl
  all_each d (x ∷ xs) h = (all_iff x xs).1 (h 0 (omega arith), all_each d xs (λ k l. h (suc k) (omega arith)))

  -- if none passes, each fails, ..
  pub none_mem : {x : A} {xs : List A} → Memᴰ x xs → any test xs ≡ false → test x ≡ false
  none_mem (mem_head {x = z} {xs} e) h = ap test e ∙ ((none_iff z xs).0 h).0
  none_mem (mem_tail {x = z} {xs} i) h = none_mem i ((none_iff z xs).0 h).1

  -- .. and conversely; ..
  pub mem_none : (xs : List A) → ((x : A) → Memᴰ x xs → test x ≡ false) → any test xs ≡ false
  unfolding any
  mem_none [] h = refl
  mem_none (x ∷ xs) h = (none_iff x xs).1 (h x (mem_head refl), mem_none xs (λ z i. h z (mem_tail i)))

  -- .. and one that passes is enough
  pub mem_any : {x : A} {xs : List A} → Memᴰ x xs → test x ≡ true → any test xs ≡ true
  mem_any {xs} i h = not_false_true (any test xs) (λ e. true≢false (sym h ∙ none_mem i e))

-- a weaker test passes too
pub all_weaker : {A : Type 0} (p q : A → Bool) → ((x : A) → p x ≡ true → q x ≡ true) → (xs : List A) → all p xs ≡ true → all q xs ≡ true
all_weaker p q h xs e = mem_all q xs (λ x i. h x (all_mem p i e))

-- tests that agree over the list
pub any_same : {A : Type 0} (s t : A → Bool) (xs : List A) → ((x : A) → Memᴰ x xs → s x ≡ t x) → any s xs ≡ any t xs
unfolding any
any_same s t [] e = refl
any_same s t (x ∷ xs) e =
    any_cons s x xs ∙ ap₂ ◌||◌ (e x (mem_head refl)) (any_same s t xs (λ y i. e y (mem_tail i))) ∙ sym (any_cons t x xs)

-- a test of a function's values
pub any_map : {A B : Type 0} (f : A → B) (t : B → Bool) (xs : List A) → any t (map f xs) ≡ any (λ x. t (f x)) xs
unfolding any
any_map f t [] = refl
any_map f t (x ∷ xs) = any_cons t (f x) (map f xs) ∙ ap (λ b. t (f x) || b) (any_map f t xs) ∙ sym (any_cons (λ x. t (f x)) x xs)

-- what holds in both arms of a test
pub by_test : {X : Type 0} (P : X → Type 0) (t : Bool) (a b : X) → P a → P b → P (elim t [ true ↦ a | false ↦ b ])
by_test P true a b h k = h
by_test P false a b h k = k
