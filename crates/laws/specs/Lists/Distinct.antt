-- Lists in which no element occurs twice.
-- Assumes nothing.
use Rattle.std.specs.Prelude.{◌<◌, ◌≤◌, ◌≡◌, ◌↔◌, ◌∷◌, ◌++◌}
use Rattle.laws.specs.Prelude.{ℕ, suc, zero, ◌∙◌, sym, ap, refl, subst⁻¹, by_cases, true, false, Bool, true≢false, List, []}
use Rattle.laws.specs.Prelude.{dec_lt, arith, eqb, length, get_or, eq-eqb, eqb-true, ne_eqb, eqb-false, test_cases}
use Rattle.rules.specs.Lists.{any, all}
use Rattle.rules.specs.Sheets.SheetRules.{Distinct}
use Rattle.laws.specs.Lists.Tests.{not_false_true, none_iff, none_append, none_mem, all_iff, any_cons}
use Rattle.laws.specs.Lists.Places.{mem_get_or}
use Rattle.laws.specs.Lists.Counts.{count_cons, count_none, times}
use Rattle.laws.specs.Lists.Pigeonhole.{AllDiffer, pigeonhole}

-- no element is like a later one
abbrev pub Unlike : {A : Type 0} → (A → A → Bool) → List A → Type 0
Unlike alike [] = Unit {0}
Unlike alike (x ∷ xs) = (any (alike x) xs ≡ false) × Unlike alike xs

-- in such a list, elements at different places are different
module _ {A : Type 0} (alike : A → A → Bool) (own : (x : A) → alike x x ≡ true) (d : A) where
  not_later : (x : A) (xs : List A) → any (alike x) xs ≡ false → (k : ℕ) → k < length xs → x ≡ get_or xs k d → ⊥
  not_later x xs e k h q = true≢false (sym (own x) ∙ ap (alike x) q ∙ none_mem (alike x) (mem_get_or xs k d h) e)

  pub unlike_differ : (xs : List A) → Unlike alike xs → (j k : ℕ) → j < length xs → k < length xs → get_or xs j d ≡ get_or xs k d → j ≡ k
  unlike_differ [] u j k h i e = absurd (omega arith)
  unlike_differ (x ∷ xs) u zero zero h i e = refl
  unlike_differ (x ∷ xs) u zero (suc k) h i e = absurd (not_later x xs u.0 k (omega arith) e)
  unlike_differ (x ∷ xs) u (suc j) zero h i e = absurd (not_later x xs u.0 j (omega arith) (sym e))
  unlike_differ (x ∷ xs) u (suc j) (suc k) h i e = ap suc (unlike_differ xs u.1 j k (omega arith) (omega arith) e)

-- ---- numbers

-- x is in the list
abbrev pub In : ℕ → List ℕ → Type 0
In x xs = any (eqb x) xs ≡ true

-- x is not in the list
abbrev pub NotIn : ℕ → List ℕ → Type 0
NotIn x xs = any (eqb x) xs ≡ false

-- x is not in a list exactly if it is not the first element and not in the rest
pub not_in_cons : (x y : ℕ) (ys : List ℕ) → NotIn x (y ∷ ys) ↔ ((x ≡ y → ⊥) × NotIn x ys)
not_in_cons x y ys = (
  λ h.
      let (first, rest) = (none_iff (eqb x) y ys).0 h in
      (eqb-false x y first, rest),
  λ (first, rest). (none_iff (eqb x) y ys).1 (ne_eqb x y first, rest),
)

-- the same for a list with two more numbers at its end
pub not_in_two : (x : ℕ) (xs : List ℕ) (a b : ℕ) → NotIn x (xs ++ (a ∷ b ∷ [])) ↔ (NotIn x xs × (x ≡ a → ⊥) × (x ≡ b → ⊥))
unfolding any
not_in_two x xs a b = (
  λ h.
      let (i, j) = (none_append (eqb x) xs (a ∷ b ∷ [])).0 h in
      let (k, l) = (not_in_cons x a (b ∷ [])).0 j in
      (i, k, ((not_in_cons x b []).0 l).0),
  λ (i, k, l). (none_append (eqb x) xs (a ∷ b ∷ [])).1 (i, (not_in_cons x a (b ∷ [])).1 (k, (not_in_cons x b []).1 (l, refl))),
)

-- in a list without repetition, no element occurs before itself
pub distinct_before : (xs : List ℕ) (y : ℕ) (ys : List ℕ) → Distinct (xs ++ (y ∷ ys)) → NotIn y xs
unfolding any
distinct_before [] y ys d = refl
distinct_before (x ∷ xs) y ys d =
    let apart = (not_in_cons x y ys).0 ((none_append (eqb x) xs (y ∷ ys)).0 d.0).1 in
    (not_in_cons y x xs).1 (λ e. apart.0 (sym e), distinct_before xs y ys d.1)

-- a list in which each number occurs at most once is without repetition
pub times_distinct : (xs : List ℕ) → ((r : ℕ) → times r xs ≤ 1) → Distinct xs
times_distinct [] h = tt
times_distinct (x ∷ xs) h = (count_none (eqb x) xs (once x (h x)), times_distinct xs (λ r. omega (arith, h r, count_cons (eqb r) x xs)))
  where
    once : (r : ℕ) → times r (r ∷ xs) ≤ 1 → times r xs ≡ 0
    once r l = let c = count_cons (eqb r) r xs in omega (arith, rw (eq-eqb r r refl) at c)

-- the numbers at different places are different
distinct_differ : (xs : List ℕ) → Distinct xs → AllDiffer (length xs) (λ i. get_or xs i 0)
distinct_differ xs d = unlike_differ eqb (λ x. eq-eqb x x refl) 0 xs (unlike xs d)
  where
    unlike : (xs : List ℕ) → Distinct xs → Unlike eqb xs
    unlike [] d = tt
    unlike (x ∷ xs) d = (d.0, unlike xs d.1)

-- k numbers below k without repetition are all the numbers below k
pub all_stand : (k : ℕ) (xs : List ℕ) → Distinct xs → ((z : ℕ) → k ≤ z → NotIn z xs) → k ≤ length xs → (x : ℕ) → x < k → In x xs
all_stand k xs d small enough x x< =
    not_false_true (any (eqb x) xs) λ e.
    omega (arith, pigeonhole k (suc (length xs)) (λ i. get_or (x ∷ xs) i 0) below (distinct_differ (x ∷ xs) (e, d)))
  where
    below : (i : ℕ) → i < suc (length xs) → get_or (x ∷ xs) i 0 < k
    below zero h = x<
    below (suc i) h =
        by_cases (dec_lt (get_or xs i 0) k) (λ l. l) λ l.
        let not_there = small (get_or xs i 0) (omega arith) in
        absurd (eqb-false (get_or xs i 0) (get_or xs i 0) (none_mem (eqb (get_or xs i 0)) (mem_get_or xs i 0 (omega arith)) not_there) refl)

-- if every number of one list is in another, a number of the first is in the second
pub wider : (fewer more : List ℕ) → all (λ k. any (eqb k) more) fewer ≡ true → (number : ℕ) → In number fewer → In number more
unfolding any
wider [] more h number i = absurd (true≢false (sym i))
wider (k ∷ fewer) more h number i =
    let (first, others) = (all_iff (λ j. any (eqb j) more) k fewer).0 h in
    test_cases (eqb number k)
    (λ e. subst⁻¹ (λ (k : ℕ). In k more) (eqb-true number k e) first)
    (λ e. wider fewer more others number (rw e at (sym (any_cons (eqb number) k fewer) ∙ i)))
