-- "No input or gate is referred to twice.": a sum over the references that a net uses is the sum over its used inputs and over every gate but the
-- last. So a net has one gate fewer than it uses inputs.
-- Assumes nothing.
use Rattle.std.specs.Prelude.{◌<◌, ◌≤◌, ◌+◌, ◌-◌, ◌≡◌, ◌||◌, ◌∷◌}
use Rattle.laws.specs.Prelude.{ℕ, suc, zero, ◌∙◌, sym, ap, refl, by_cases, true, false, Bool, true≢false, cond, List, []}
use Rattle.laws.specs.Prelude.{map, Memᴰ, mem_head, mem_tail, zero-add, add-zero, ℕ_discrete, arith, eqb, length, eqb-true, ne_eqb}
use Rattle.laws.specs.Prelude.{eqb-false}
use Rattle.rules.specs.Groups.Groups.{member, size}
use Rattle.rules.specs.Lists.{range, any, those, total}
use Rattle.rules.specs.Nets.Arrivals.{used_inputs}
use Rattle.rules.specs.Nets.Trees.{UsesJust}
use Rattle.rules.specs.Nets.Wirings.{gates_in}
use Rattle.rules.specs.Sheets.SheetRules.{Distinct, IsNet}
use Rattle.rules.specs.Sheets.Sheets.{Gate, used_by}
use Rattle.laws.specs.Lists.Tests.{any_cons, by_test}
use Rattle.laws.specs.Lists.Ranges.{range_length, range_append, range_suc, mem_range, range_mem}
use Rattle.laws.specs.Lists.Finds.{those_mem}
use Rattle.laws.specs.Lists.Totals.{total_parts, those_cons, those_append}
use Rattle.laws.specs.Lists.Listed.{mem_those, those_pass, those_listed}
use Rattle.laws.specs.Lists.Distinct.{In, NotIn, not_in_cons}
use Rattle.trees.specs.Trees.Wirings.{gates_in_size}
use Rattle.trees.specs.Trees.NetTree.{net_tree, net_wiring, net_group, net_uses, past_unused, used_length}

-- ---- a list without one number

-- without the first r
but : ℕ → List ℕ → List ℕ
but r [] = []
but r (x ∷ xs) = elim (eqb r x) [ true ↦ xs | false ↦ x ∷ but r xs ]

-- a number that is not in the list is not in what is left
but_not : (r z : ℕ) (xs : List ℕ) → NotIn z xs → NotIn z (but r xs)
unfolding but
but_not r z [] free = free
but_not r z (x ∷ xs) free =
    let (first, rest) = (not_in_cons z x xs).0 free in
    by_test (NotIn z) (eqb r x) xs (x ∷ but r xs) rest ((not_in_cons z x (but r xs)).1 (first, but_not r z xs rest))

-- after that, a list without repetition no longer has it, ..
but_gone : (r : ℕ) (xs : List ℕ) → Distinct xs → NotIn r (but r xs)
unfolding but any
but_gone r [] d = refl
but_gone r (x ∷ xs) d = go (eqb r x) refl (but_gone r xs d.1)
  where
    go : (t : Bool) → eqb r x ≡ t → NotIn r (but r xs) → NotIn r (elim t as (λ _. List ℕ) [ true ↦ xs | false ↦ x ∷ but r xs ])
    go true e later = rw (eqb-true r x e) d.0
    go false e later = (not_in_cons r x (but r xs)).1 (eqb-false r x e, later)

-- .. and stays without repetition
but_distinct : (r : ℕ) (xs : List ℕ) → Distinct xs → Distinct (but r xs)
unfolding but
but_distinct r [] d = tt
but_distinct r (x ∷ xs) d =
    by_test Distinct (eqb r x) xs (x ∷ but r xs) d.1 (but_not r x xs d.0, but_distinct r xs d.1)

-- and every other number is in it as before
but_same : (r z : ℕ) (xs : List ℕ) → (z ≡ r → ⊥) → any (eqb z) (but r xs) ≡ any (eqb z) xs
unfolding but
but_same r z [] ne = refl
but_same r z (x ∷ xs) ne = go (eqb r x) refl (but_same r z xs ne)
  where
    go : (t : Bool) → eqb r x ≡ t → any (eqb z) (but r xs) ≡ any (eqb z) xs
        → any (eqb z) (elim t as (λ _. List ℕ) [ true ↦ xs | false ↦ x ∷ but r xs ]) ≡ any (eqb z) (x ∷ xs)
    go true e later = sym (any_cons (eqb z) x xs ∙ rw (← (eqb-true r x e), ne_eqb z r ne))
    go false e later = any_cons (eqb z) x (but r xs) ∙ ap (λ (t : Bool). eqb z x || t) later ∙ sym (any_cons (eqb z) x xs)

-- ---- sums

-- if all of a list pass a test, all are kept
those_every : (test : ℕ → Bool) (xs : List ℕ) → ((x : ℕ) → Memᴰ x xs → test x ≡ true) → those test xs ≡ xs
unfolding those
those_every test [] each = refl
those_every test (x ∷ xs) each = those_cons test x xs ∙ rw (each x (mem_head refl), those_every test xs (λ y is. each y (mem_tail is)))

module _ (f : ℕ → ℕ) where
  -- the sum over a list is the sum over what is left, plus one value
  sum_but : (r : ℕ) (xs : List ℕ) → In r xs → total (map f xs) ≡ total (map f (but r xs)) + f r
  unfolding total but any
  sum_but r [] is = absurd (true≢false (sym is))
  sum_but r (x ∷ xs) is = go (eqb r x) refl (sym (any_cons (eqb r) x xs) ∙ is) (sum_but r xs)
    where
      go : (t : Bool) → eqb r x ≡ t → (t || any (eqb r) xs) ≡ true → (In r xs → total (map f xs) ≡ total (map f (but r xs)) + f r)
          → total (map f (x ∷ xs)) ≡ total (map f (elim t as (λ _. List ℕ) [ true ↦ xs | false ↦ x ∷ but r xs ])) + f r
      go true e is later = rw (eqb-true r x e) (omega arith)
      go false e is later = omega (arith, later is)

  -- one more number, which may pass a test
  sum_last : (test : ℕ → Bool) (k : ℕ) → total (map f (those test (range 0 (suc k)))) ≡ total (map f (those test (range 0 k))) + cond (test k) (f k) 0
  unfolding total those
  sum_last test k =
      ap (λ (xs : List ℕ). total (map f (those test xs))) (range_suc 0 k)
      ∙ ap (λ (xs : List ℕ). total (map f xs)) (those_append test (range 0 k) ((0 + k) ∷ []))
      ∙ total_parts f (those test (range 0 k)) (those test ((0 + k) ∷ []))
      ∙ rw (zero-add k) (go (test k))
    where
      go : (t : Bool) → total (map f (those test (range 0 k))) + total (map f (elim t as (λ _. List ℕ) [ true ↦ k ∷ [] | false ↦ [] ]))
          ≡ total (map f (those test (range 0 k))) + cond t (f k) 0
      go true = omega arith
      go false = omega arith

  -- the sum over distinct numbers below k is the sum over the numbers below k that are in the list, in order
  sum_those : (k : ℕ) (xs : List ℕ) → Distinct xs → ((z : ℕ) → k ≤ z → NotIn z xs)
      → total (map f xs) ≡ total (map f (those (λ i. any (eqb i) xs) (range 0 k)))
  unfolding total range those
  sum_those zero [] d small = refl
  sum_those zero (x ∷ xs) d small = absurd (((not_in_cons x x xs).0 (small x (omega arith))).0 refl)
  sum_those (suc k) xs d small =
      go (any (eqb k) xs) refl
      (sum_those k (but k xs) (but_distinct k xs d)
      (λ z h. by_cases (ℕ_discrete z k) (λ e. rw e (but_gone k xs d)) (λ ne. but_not k z xs (small z (omega arith)))))
      (λ free. sum_those k xs d (λ z h. by_cases (ℕ_discrete z k) (λ e. rw e free) (λ ne. small z (omega arith))))
    where
      test : ℕ → Bool
      test i = any (eqb i) xs

      go : (t : Bool) → any (eqb k) xs ≡ t
          → total (map f (but k xs)) ≡ total (map f (those (λ i. any (eqb i) (but k xs)) (range 0 k)))
          → (NotIn k xs → total (map f xs) ≡ total (map f (those test (range 0 k))))
          → total (map f xs) ≡ total (map f (those test (range 0 (suc k))))
      go true is left all =
          let same = those_listed (λ i. any (eqb i) (but k xs)) test (range 0 k)
          (λ i listed. but_same k i xs (λ e. omega (arith, (range_mem 0 k i listed).1))) in
          sum_but k xs is
          ∙ ap (λ (s : ℕ). s + f k) (left ∙ ap (λ (ys : List ℕ). total (map f ys)) same)
          ∙ sym (sum_last test k ∙ rw is)
      go false free left all = all free ∙ sym (sum_last test k ∙ rw (free, add-zero))

  -- over the references that a net uses: its used inputs, and every gate but the last
  pub used_sum : (m n : ℕ) (gates : List Gate) → IsNet m n gates
      → total (map f (used_by gates)) ≡ total (map f (used_inputs n gates)) + total (map f (range n (length gates - 1)))
  unfolding used_inputs
  used_sum m n gates net =
      let test : ℕ → Bool = λ i. any (eqb i) (used_by gates) in
      let all : those test (range (0 + n) (length gates - 1)) ≡ range n (length gates - 1) =
      rw (zero-add n) (those_every test (range n (length gates - 1)) (λ i listed. gate_used i (range_mem n (length gates - 1) i listed))) in
      sum_those (n + (length gates - 1)) (used_by gates) net.rules.once (λ z h. past_unused n gates net.rules.back z (omega (arith, net.some)))
      ∙ ap (λ (xs : List ℕ). total (map f xs))
      (ap (those test) (range_append 0 n (length gates - 1)) ∙ those_append test (range 0 n) (range (0 + n) (length gates - 1)))
      ∙ total_parts f (those test (range 0 n)) (those test (range (0 + n) (length gates - 1)))
      ∙ ap (λ (xs : List ℕ). total (map f (those test (range 0 n))) + total (map f xs)) all
    where
      gate_used : (i : ℕ) → (n ≤ i) × (i < n + (length gates - 1)) → any (eqb i) (used_by gates) ≡ true
      gate_used i between =
          let place : n + (i - n) ≡ i = omega arith in
          rw place at (net.used (i - n) (omega arith))

-- ---- the inputs that a net uses

module _ (n : ℕ) (gates : List Gate) (i : ℕ) where
  -- those that are listed are used, ..
  pub listed_used : Memᴰ i (used_inputs n gates) → (i < n) × (any (eqb i) (used_by gates) ≡ true)
  unfolding used_inputs
  listed_used is =
      let test : ℕ → Bool = λ j. any (eqb j) (used_by gates) in
      (omega (arith, (range_mem 0 n i (those_mem test (range 0 n) i is)).1), those_pass test i (range 0 n) is)

  -- .. and those that are used are listed
  pub used_listed : i < n → any (eqb i) (used_by gates) ≡ true → Memᴰ i (used_inputs n gates)
  unfolding used_inputs
  used_listed h used = mem_those (λ j. any (eqb j) (used_by gates)) i (range 0 n) (mem_range 0 n i (omega arith) (omega arith)) used

-- each number counts one
sum_ones : (xs : List ℕ) → total (map (λ _. 1) xs) ≡ length xs
unfolding total
sum_ones [] = refl
sum_ones (x ∷ xs) = omega (arith, sum_ones xs)

-- there is one more than gates
pub used_inputs_length : (m n : ℕ) (gates : List Gate) → IsNet m n gates → length (used_inputs n gates) ≡ suc (length gates)
used_inputs_length m n gates net =
    omega (
      arith,
      net.some,
      used_sum (λ _. 1) m n gates net,
      sum_ones (used_by gates),
      sum_ones (used_inputs n gates),
      sum_ones (range n (length gates - 1)),
      range_length n (length gates - 1),
      used_length gates,
    )

-- the group of a net's leaves has that many members
pub net_size : (m n : ℕ) (gates : List Gate) (net : IsNet m n gates) → size n (net_group m n gates net) ≡ suc (length gates)
unfolding size used_inputs
net_size m n gates net =
    ap length (those_listed (λ i. member i (net_group m n gates net)) (λ i. any (eqb i) (used_by gates)) (range 0 n)
    (λ i listed. sym (net_uses m n gates net i (omega (arith, (range_mem 0 n i listed).1)))))
    ∙ used_inputs_length m n gates net

-- and its tree has all its gates
pub net_gates : (m n : ℕ) (gates : List Gate) (net : IsNet m n gates) → gates_in (net_wiring m n gates net) ≡ length gates
net_gates m n gates net =
    omega (arith, gates_in_size n (net_wiring m n gates net) (net_tree m n gates net).once, net_size m n gates net)

-- two nets with the same leaves use the same inputs
pub same_inputs : (n : ℕ) (gates others : List Gate) (g : ℕ) → UsesJust n gates g → UsesJust n others g → used_inputs n gates ≡ used_inputs n others
unfolding used_inputs
same_inputs n gates others g uses uses' =
    those_listed (λ i. any (eqb i) (used_by gates)) (λ i. any (eqb i) (used_by others)) (range 0 n)
    (λ i listed. let i< : i < n = omega (arith, (range_mem 0 n i listed).1) in uses i i< ∙ sym (uses' i i<))
