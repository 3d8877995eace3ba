-- What the result of the multiplicity call means: the fewest values that a wire in place of the group can carry.
-- Assumes nothing.
use Rattle.std.specs.Prelude.{◌<◌, ◌≤◌, ◌^◌, ◌≡◌, ◌↔◌, ◌||◌}
use Rattle.laws.specs.Prelude.{ℕ, sym, refl, subst, true, false, Bool, List, arith, eqb, leb, leb-false, test_cases}
use Rattle.rules.specs.Calls.Answers.{Answer, accepted, refused, ink_in, onward}
use Rattle.rules.specs.Calls.OpenCells.{full_cells}
use Rattle.rules.specs.Groups.Groups.{multiplicity}
use Rattle.rules.specs.Calls.Multiplicity.{multiplicity_call}
use Rattle.laws.specs.Calls.Answers.{accepted_inj, not_refused}
use Rattle.laws.specs.Calls.OpenCells.{cells_sized}
use Rattle.laws.specs.Numbers.Sizes.{sized}
use Rattle.laws.specs.Lists.Tests.{or_false_iff}
use Rattle.demands.specs.Paper.Decompositions.{SimpleBy, values_needed}

module _ (m n : ℕ) (cells : List ℕ) (g k : ℕ) where
  -- the table is F(g(X), Y) with g of j values exactly if j is at least the number returned
  abbrev pub FewestValues : Type 0
  FewestValues = (j : ℕ) → SimpleBy j m n (ink_in cells) g ↔ (k ≤ j)

  -- Document 02, K1: "The multiplicity call gives the true number of classes, however large."
  pub counted_fewest : multiplicity_call m n cells g ≡ accepted k → (multiplicity m n (ink_in cells) g ≡ k) × FewestValues
  unfolding multiplicity_call onward
  counted_fewest e = judged (full_cells m n cells) refl e
    where
      group : Bool → Answer ℕ
      group t = elim t [ true ↦ refused 11 0 | false ↦ accepted (multiplicity m n (ink_in cells) g) ]

      judged : (a : Answer (Unit {0})) → full_cells m n cells ≡ a → onward a (λ _. group (eqb g 0 || leb (2 ^ n) g)) ≡ accepted k
          → (multiplicity m n (ink_in cells) g ≡ k) × FewestValues
      judged (accepted _) b e = test_cases (eqb g 0 || leb (2 ^ n) g)
          (λ h. absurd (not_refused k 11 0 (sym (rw h at e))))
          (λ h.
          let is : multiplicity m n (ink_in cells) g ≡ k = accepted_inj _ _ (rw h at e) in
          let size = sized m n (cells_sized m n cells (sym b)).0 in
          let below : g < 2 ^ n = leb-false (2 ^ n) g ((or_false_iff (eqb g 0) (leb (2 ^ n) g)).0 h).1 in (
            is,
            λ j. subst (λ (c : ℕ). SimpleBy j m n (ink_in cells) g ↔ (c ≤ j)) is
                (values_needed j m n (omega (arith, size.levels_least)) (ink_in cells) g below),
          ))
      judged (refused number place) b e = absurd (not_refused k number place (sym e))
