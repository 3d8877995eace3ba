-- Sums over the numbers below a bound.
-- Assumes nothing.
use Rattle.std.specs.Prelude.{◌<◌, ◌≤◌, ◌+◌, ◌≡◌, ◌∷◌, ◌++◌}
use Rattle.laws.specs.Prelude.{ℕ, suc, zero, ◌∙◌, ap, refl, subst⁻¹, true, false, Bool, cond, List, [], map, Memᴰ}
use Rattle.laws.specs.Prelude.{mem_head, mem_append_right, mem_append_left, ℕ_discrete, arith, by_cases}
use Rattle.rules.specs.Lists.{range, those, total}
use Rattle.laws.specs.Lists.Ranges.{range_suc}
use Rattle.laws.specs.Lists.Totals.{total_parts, those_cons, those_append}

-- the sum over the numbers below k
unfoldable pub sum_to : (ℕ → ℕ) → ℕ → ℕ
sum_to f zero = 0
sum_to f (suc k) = sum_to f k + f k

-- functions that agree
pub sum_same : (f h : ℕ → ℕ) (k : ℕ) → ((i : ℕ) → i < k → f i ≡ h i) → sum_to f k ≡ sum_to h k
unfolding sum_to
sum_same f h zero e = refl
sum_same f h (suc k) e = omega (arith, sum_same f h k (λ i l. e i (omega arith)), e k (omega arith))

-- two sums together
pub sum_both : (f h : ℕ → ℕ) (k : ℕ) → sum_to (λ i. f i + h i) k ≡ sum_to f k + sum_to h k
unfolding sum_to
sum_both f h zero = refl
sum_both f h (suc k) = omega (arith, sum_both f h k)

-- in pairs
pub sum_pairs : (f : ℕ → ℕ) (k : ℕ) → sum_to f (k + k) ≡ sum_to (λ b. f (b + b) + f (suc (b + b))) k
unfolding sum_to
sum_pairs f zero = refl
sum_pairs f (suc k) =
    let twice : suc k + suc k ≡ suc (suc (k + k)) = omega arith in
    rw twice (omega (arith, sum_pairs f k))

-- more numbers
pub sum_more : (f : ℕ → ℕ) (j k : ℕ) → j ≤ k → sum_to f j ≤ sum_to f k
unfolding sum_to
sum_more f j zero h = let none : j ≡ 0 = omega arith in rw none (omega arith)
sum_more f j (suc k) h =
    by_cases (ℕ_discrete j (suc k)) (λ e. rw e (omega arith)) (λ other. omega (arith, sum_more f j k (omega arith)))

-- a sum over the numbers of a range that pass, if each is at most another function's value there
pub total_sum : (f h : ℕ → ℕ) (test : ℕ → Bool) (k : ℕ) → ((a : ℕ) → Memᴰ a (those test (range 1 k)) → f a ≤ h a)
    → total (map f (those test (range 1 k))) ≤ sum_to h (suc k)
unfolding range those total sum_to
total_sum f h test zero most = omega arith
total_sum f h test (suc k) most =
    let sum : total (map f (those test (range 1 (suc k)))) ≡ total (map f (those test (range 1 k))) + total (map f (those test (suc k ∷ []))) =
    ap (λ (l : List ℕ). total (map f l)) parts ∙ total_parts f (those test (range 1 k)) (those test (suc k ∷ [])) in
    subst⁻¹ (λ (s : ℕ). s ≤ sum_to h (suc (suc k))) sum
    (omega (
      arith,
      total_sum f h test k (λ a is. most a (rw parts (mem_append_left _ is))),
      last (λ is. most (suc k) (rw parts (mem_append_right (those test (range 1 k)) is))),
    ))
  where
    parts : those test (range 1 (suc k)) ≡ those test (range 1 k) ++ those test (suc k ∷ [])
    parts =
        let next : 1 + k ≡ suc k = omega arith in
        ap (those test) (range_suc 1 k) ∙ those_append test (range 1 k) ((1 + k) ∷ []) ∙ rw next

    -- the last of the range, if it passes
    last : (Memᴰ (suc k) (those test (suc k ∷ [])) → f (suc k) ≤ h (suc k)) → total (map f (those test (suc k ∷ []))) ≤ h (suc k)
    last most = rw (those_cons test (suc k) []) (go (test (suc k)) (rw (those_cons test (suc k) []) at most))
      where
        go : (t : Bool) → (Memᴰ (suc k) (cond t (suc k ∷ []) []) → f (suc k) ≤ h (suc k)) → total (map f (cond t (suc k ∷ []) [])) ≤ h (suc k)
        go true most = omega (arith, most (mem_head refl))
        go false most = omega arith
