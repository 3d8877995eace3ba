-- Two assignments of a group compared (document 02, K4): the result is `none` exactly if they are alike, and a place exactly if it is the least
-- at which the inks differ.
-- Assumes nothing.
use Rattle.std.specs.Prelude.{◌<◌, ◌≤◌, ◌+◌, ◌-◌, ◌^◌, ◌≡◌, ◌↔◌, ◌≢◌}
use Rattle.laws.specs.Prelude.{ℕ, ◌∙◌, sym, ap, refl, subst, true, false, not, List, ℕ_discrete, arith, length, get_or}
use Rattle.laws.specs.Prelude.{eq-eqb, eqb-true, ne_eqb, eqb-false, not-true, by_cases, test_cases}
use Rattle.rules.specs.Groups.Groups.{size, part, points, others, alike, alike_over}
use Rattle.std.proofs.Math.Option.{Option, none, some, some-injective, none-ne-some}
use Rattle.rules.specs.Groups.Differences.{differ_at, difference_over, first_difference}
use Rattle.laws.specs.Lists.Tests.{all_mem, mem_all}
use Rattle.laws.specs.Lists.Places.{mem_get_or, mem_place}
use Rattle.laws.specs.Lists.Finds.{First, found, missing, first_same, first_in_range}
use Rattle.trees.specs.Trees.Trees.{Alike}
use Rattle.trees.specs.Groups.Members.{size_others}
use Rattle.trees.specs.Groups.Points.{points_length}
use Rattle.trees.specs.Groups.Alike.{alike_holds, alike_tested}

-- the inks of p and q differ at place k of ys, ..
pub record Differ (f : ℕ → ℕ) (ys : List ℕ) (p q k : ℕ) : Type 0 where
  pub there : k < length ys
  pub differ : f (p + get_or ys k 0) ≢ f (q + get_or ys k 0)

-- .. and at no earlier one
pub record FirstDiffer (f : ℕ → ℕ) (ys : List ℕ) (p q k : ℕ) : Type 0 where
  pub place : Differ f ys p q k
  pub least : (j : ℕ) → Differ f ys p q j → k ≤ j

module _ (f : ℕ → ℕ) (ys : List ℕ) (p q : ℕ) where
  -- the result is the first place
  told : First (Differ f ys p q) ◌≤◌ (difference_over f ys p q)
  unfolding difference_over differ_at
  told =
      first_same (first_in_range (differ_at f ys p q) 0 (length ys))
      (λ k. (
        λ h. record { there = omega arith; differ = eqb-false _ _ (not-true _ h.2) },
        λ d. (omega arith, omega (arith, d.there), ap not (ne_eqb _ _ d.differ)),
      ))
      (λ g h _ _ r. r)

  -- `none` exactly if the two are alike
  pub none_differ : difference_over f ys p q ≡ none ↔ alike_over f ys p q ≡ true
  unfolding alike_over
  none_differ = (alike_of told, none_of told)
    where
      same : (k : ℕ) → k < length ys → (Differ f ys p q k → ⊥) → f (p + get_or ys k 0) ≡ f (q + get_or ys k 0)
      same k h no_differ = by_cases (ℕ_discrete (f (p + get_or ys k 0)) (f (q + get_or ys k 0)))
          (λ e. e)
          (λ ne. absurd (no_differ (record { there = h; differ = ne })))

      alike_of : {o : Option ℕ} → First (Differ f ys p q) ◌≤◌ o → o ≡ none → alike_over f ys p q ≡ true
      alike_of (found k d least) e = absurd (none-ne-some k (sym e))
      alike_of (missing empty) e =
          mem_all _ ys
          (λ y is. let (k, k<, at) = mem_place y ys is in eq-eqb _ _ (rw at at (same k k< (empty k))))

      none_of : {o : Option ℕ} → First (Differ f ys p q) ◌≤◌ o → alike_over f ys p q ≡ true → o ≡ none
      none_of (found k d least) h = absurd (d.differ (eqb-true _ _ (all_mem _ (mem_get_or ys k 0 d.there) h)))
      none_of (missing empty) h = refl

  -- a place exactly if it is the first
  pub some_first : (k : ℕ) → difference_over f ys p q ≡ some k ↔ FirstDiffer f ys p q k
  some_first k = (first_of told, some_of told)
    where
      first_of : {o : Option ℕ} → First (Differ f ys p q) ◌≤◌ o → o ≡ some k → FirstDiffer f ys p q k
      first_of (found g d least) e = subst (FirstDiffer f ys p q) (some-injective g k e) (record { place = d; least = least })
      first_of (missing empty) e = absurd (none-ne-some k e)

      some_of : {o : Option ℕ} → First (Differ f ys p q) ◌≤◌ o → FirstDiffer f ys p q k → o ≡ some k
      some_of (found g d least) is = ap some (omega (arith, least k is.place, is.least g d))
      some_of (missing empty) is = absurd (empty k is.place)

  -- so the two are not alike if the result is a place
  pub some_unlike : (k : ℕ) → difference_over f ys p q ≡ some k → alike_over f ys p q ≡ false
  some_unlike k e =
      test_cases (alike_over f ys p q) (λ h. absurd (none-ne-some k (sym (none_differ.1 h) ∙ e))) (λ h. rw h)

-- The same for a group and all assignments of the other inputs.
module _ (m n : ℕ) (f : ℕ → ℕ) (g p q : ℕ) where
  pub difference_none : first_difference m n f g p q ≡ none ↔ alike m n f g p q ≡ true
  unfolding first_difference alike
  difference_none = none_differ f (points m n (others n g)) p q

  pub difference_first : (k : ℕ) → first_difference m n f g p q ≡ some k ↔ FirstDiffer f (points m n (others n g)) p q k
  unfolding first_difference
  difference_first = some_first f (points m n (others n g)) p q

  -- a place is below the number of assignments of the other inputs
  pub difference_below : 0 < m → g < 2 ^ n → (k : ℕ) → first_difference m n f g p q ≡ some k → k < m ^ (n - size n g)
  difference_below pos g< k e = rw (points_length m n pos (others n g), size_others n g g<) at ((difference_first k).0 e).place.there

-- For the parts of two indices in a group: `none` exactly if the ink is the same whatever the other inputs are.
pub difference_alike : (m n : ℕ) → 0 < m → (f : ℕ → ℕ) (g p q : ℕ) → g < 2 ^ n
    → first_difference m n f g (part m n g p) (part m n g q) ≡ none ↔ Alike m n f g p q
difference_alike m n pos f g p q g< =
    let tested = difference_none m n f g (part m n g p) (part m n g q) in
    (λ e. alike_holds m n pos f g p q g< (tested.0 e), λ h. tested.1 (alike_tested m n pos f g p q g< h))
