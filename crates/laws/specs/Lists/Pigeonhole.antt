-- Pigeonhole: there are at most k different numbers below k.
-- Assumes nothing.
use Rattle.std.specs.Prelude.{◌<◌, ◌≤◌, ◌≡◌}
use Rattle.laws.specs.Prelude.{ℕ, suc, zero, suc-le-suc, zero-le, ◌∙◌, sym, refl, true, false, Bool, cond, le_refl, le_of_suc-le-suc}
use Rattle.laws.specs.Prelude.{not-suc-le-zero, le_step, dec_lt, arith, eqb, eqb-true, eqb-false, lt_of_le-ne, by_cases, test_cases}

-- the first c values are pairwise different
abbrev pub AllDiffer : ℕ → (ℕ → ℕ) → Type 0
AllDiffer c w = (i j : ℕ) → i < c → j < c → w i ≡ w j → i ≡ j

-- it is enough that no value equals a later one
pub later_differ : (c : ℕ) (w : ℕ → ℕ) → ((i j : ℕ) → i < j → j < c → w i ≡ w j → ⊥) → AllDiffer c w
later_differ c w later i j i< j< e = by_cases (dec_lt i j)
    (λ h. absurd (later i j h j< e))
    (λ h. by_cases (dec_lt j i)
    (λ k. absurd (later j i k i< (sym e)))
    (λ k. omega arith))

-- replaces the value k by the last value
spare : ℕ → ℕ → (ℕ → ℕ) → ℕ → ℕ
spare k c w i = cond (eqb (w i) k) (w c) (w i)

-- after that, the values are below k, ..
spare_below : (k c : ℕ) (w : ℕ → ℕ) → ((i : ℕ) → i < suc c → w i < suc k) → AllDiffer (suc c) w → (i : ℕ) → i < c → spare k c w i < k
unfolding spare
spare_below k c w small differ i h = test_cases (eqb (w i) k)
    (λ e. rw e (lt_of_le-ne (le_of_suc-le-suc (small c (le_refl (suc c)))) (λ d. other (eqb-true (w i) k e ∙ sym d))))
    (λ e. rw e (lt_of_le-ne (le_of_suc-le-suc (small i (le_step h))) (eqb-false (w i) k e)))
  where
    other : w i ≡ w c → ⊥
    other e = let d = differ i c (le_step h) (le_refl (suc c)) e in omega arith

-- .. and still pairwise different
spare_differ : (k c : ℕ) (w : ℕ → ℕ) → AllDiffer (suc c) w → AllDiffer c (spare k c w)
unfolding spare
spare_differ k c w differ i j i< j< = go (eqb (w i) k) (eqb (w j) k) refl refl
  where
    go : (b d : Bool) → eqb (w i) k ≡ b → eqb (w j) k ≡ d → cond b (w c) (w i) ≡ cond d (w c) (w j) → i ≡ j
    go true true p q e = differ i j (le_step i<) (le_step j<) (eqb-true (w i) k p ∙ sym (eqb-true (w j) k q))
    go true false p q e = let d = differ c j (le_refl (suc c)) (le_step j<) e in omega arith
    go false true p q e = let d = differ i c (le_step i<) (le_refl (suc c)) e in omega arith
    go false false p q e = differ i j (le_step i<) (le_step j<) e

-- if c different values are below k, then c is at most k
pub pigeonhole : (k c : ℕ) (w : ℕ → ℕ) → ((i : ℕ) → i < c → w i < k) → AllDiffer c w → c ≤ k
pigeonhole k zero w small differ = zero-le
pigeonhole zero (suc c) w small differ = absurd (not-suc-le-zero (small c (le_refl (suc c))))
pigeonhole (suc k) (suc c) w small differ =
    suc-le-suc (pigeonhole k c (spare k c w) (spare_below k c w small differ) (spare_differ k c w differ))
