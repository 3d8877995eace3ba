-- "the set of the gates whose table field differs from the old one, as the sum of 2 to the power of each one's number" (document 02, K10): bit k of
-- the sum is gate k's and no other bit is set, so the sum determines exactly these gates.
-- Assumes nothing.
use Rattle.std.specs.Prelude.{◌<◌, ◌≤◌, ◌+◌, ◌^◌, ◌*◌, ◌/◌, ◌≡◌, ◌↔◌, ◌≢◌}
use Rattle.laws.specs.Prelude.{ℕ, suc, zero, ◌∙◌, sym, ap, refl, subst, true, false, Bool, not, true≢false, cond}
use Rattle.laws.specs.Prelude.{List, zero-add, lt_of_lt_of_le, div-eq_of_lt, dec_lt, arith, length, not-true, pow_mono, pow_pos, by_cases}
use Rattle.rules.specs.Calls.Keeping.{table_at, table_differs, changed_gates}
use Rattle.rules.specs.Groups.Groups.{member}
use Rattle.rules.specs.Lists.{range, those, same, total}
use Rattle.rules.specs.Sheets.Sheets.{Gate}
use Rattle.laws.specs.Lists.Ranges.{range_shift}
use Rattle.laws.specs.Lists.Same.{same_refl, same_true}
use Rattle.laws.specs.Lists.Tests.{one_where, one_if_le, not_true_false}
use Rattle.trees.specs.Groups.Members.{low_member, member_suc, member_zero, member_ext}
use Rattle.trees.specs.Groups.GroupSum.{powers, powers_cons, powers_shift}

-- ---- sums of powers

-- from 0 on: the lowest bit is the first number's, and the half is the sum for the others, each shifted down by one place
powers_halves : (test : ℕ → Bool) (n : ℕ) → powers test (range 0 (suc n)) ≡ one_where (test 0) + 2 * powers (λ i. test (suc i)) (range 0 n)
unfolding range
powers_halves test n =
    powers_cons test 0 (range 1 n)
    ∙ ap (λ (later : ℕ). cond (test 0) (2 ^ 0) 0 + later) (ap (powers test) (range_shift 0 n) ∙ powers_shift test (range 0 n))
    ∙ ap (λ (low : ℕ). low + 2 * powers (λ i. test (suc i)) (range 0 n)) (one (test 0))
  where
    one : (t : Bool) → cond t (2 ^ 0) 0 ≡ one_where t
    one true = refl
    one false = refl

-- a number below n has its bit exactly if it passes
member_powers : (n : ℕ) (test : ℕ → Bool) (i : ℕ) → i < n → member i (powers test (range 0 n)) ≡ test i
member_powers zero test i h = absurd (omega arith)
member_powers (suc n) test zero h =
    low_member (powers test (range 0 (suc n))) (test 0) (omega (arith, powers_halves test n, one_if_le (test 0)))
member_powers (suc n) test (suc i) h =
    member_suc i (powers test (range 0 (suc n)))
    ∙ ap (member i) (let z : powers test (range 0 (suc n)) / 2 ≡ powers (λ j. test (suc j)) (range 0 n) =
    omega (arith, powers_halves test n, one_if_le (test 0)) in z)
    ∙ member_powers n (λ j. test (suc j)) i (omega arith)

-- no further bit is set
pub powers_below : (n : ℕ) (test : ℕ → Bool) → powers test (range 0 n) < 2 ^ n
unfolding range those total
powers_below zero test = omega arith
powers_below (suc n) test = omega (arith, powers_halves test n, powers_below n (λ i. test (suc i)), one_if_le (test 0))

-- a number below 2 to the k has no bit from place k on
past : (k g : ℕ) → g < 2 ^ k → member k g ≡ false
unfolding member
past k g h = rw (div-eq_of_lt h)

-- a number below 2 to the n has no bit from n on
bit_below : (k n g : ℕ) → g < 2 ^ n → member k g ≡ true → k < n
bit_below k n g g< e = by_cases (dec_lt k n)
    (λ h. h)
    (λ h. absurd (true≢false (sym e ∙ past k g (lt_of_lt_of_le g< (pow_mono {i = n} {j = k} (omega arith))))))

-- ---- the set

module _ (old new : List Gate) where
  -- the numbers from 1 on, as numbers from 0 on where 0 does not pass
  abbrev at_least : ℕ → Bool
  at_least zero = false
  at_least (suc k) = table_differs old new (suc k)

  from_zero : changed_gates old new ≡ powers at_least (range 0 (suc (length old)))
  unfolding changed_gates range
  from_zero =
      ap (powers (table_differs old new)) (range_shift 0 (length old))
      ∙ powers_shift (table_differs old new) (range 0 (length old))
      ∙ sym (powers_halves at_least (length old) ∙ zero-add _)

  -- no bit past the last gate's is set, ..
  pub changed_below : changed_gates old new < 2 ^ suc (length old)
  changed_below = rw from_zero (powers_below (suc (length old)) at_least)

  -- .. gate k's is set exactly if its table differs, and no gate has number 0
  bit_is : (k : ℕ) → k < suc (length old) → member k (changed_gates old new) ≡ at_least k
  bit_is k h = rw from_zero (member_powers (suc (length old)) at_least k h)

  differs : (k : ℕ) → (table_differs old new k ≡ true) ↔ (table_at old k ≢ table_at new k)
  unfolding table_differs
  differs k = (
    λ e is. true≢false (sym (subst (λ (ys : List ℕ). same (table_at old k) ys ≡ true) is (same_refl (table_at old k))) ∙ not-true _ e),
    λ other. ap not (not_true_false _ (λ e. other (same_true (table_at old k) (table_at new k) e))),
  )

  -- The set is exactly the gates that changed.
  pub changed_exactly : (k : ℕ) → (member k (changed_gates old new) ≡ true) ↔ ((0 < k) × (k ≤ length old) × (table_at old k ≢ table_at new k))
  changed_exactly zero = (λ e. absurd (true≢false (sym e ∙ bit_is 0 (omega arith))), λ h. absurd (omega (arith, h.0)))
  changed_exactly (suc k) = (
    λ e. let small = bit_below (suc k) (suc (length old)) (changed_gates old new) changed_below e in
        (omega arith, omega arith, (differs (suc k)).0 (sym (bit_is (suc k) small) ∙ e)),
    λ h. bit_is (suc k) (omega (arith, h.1)) ∙ (differs (suc k)).1 h.2,
  )

-- a gate list compared with itself: the empty set
pub none_changed : (gates : List Gate) → changed_gates gates gates ≡ 0
none_changed gates =
    member_ext (suc (length gates)) (changed_gates gates gates) 0 (changed_below gates gates) (pow_pos (suc (length gates)))
    (λ k h. not_true_false _ (λ e. ((changed_exactly gates gates k).0 e).2 refl) ∙ sym (member_zero k))
