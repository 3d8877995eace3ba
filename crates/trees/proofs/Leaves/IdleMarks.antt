-- The theorems of Leaves/IdleMarks that rest on a definition which a must-fail edit changes: they stand here, so that the edit leaves specs/ readable.
-- Assumes nothing.
use Rattle.std.specs.Prelude.{◌<◌, ◌≤◌, ◌^◌, ◌≡◌}
use Rattle.laws.specs.Prelude.{ℕ, ◌∙◌, sym, ap, by_cases, cond, dec_lt, arith, eqb, eq-eqb, ne_eqb}
use Rattle.rules.specs.Groups.Groups.{member, multiplicity}
use Rattle.trees.specs.Groups.Members.{member_zero, inside_le}
use Rattle.trees.specs.Groups.MarkRule.{Way, to_none, to_two, to_one, marked, way}
use Rattle.trees.specs.Leaves.CutWirings.{Idle, idle_few}
use Rattle.trees.proofs.Leaves.CutWirings.{idle_marks}
use Rattle.trees.specs.Leaves.IdleMarks.{all_idle_mark}

module _ (m n : ℕ) (pos : 0 < m) (f : ℕ → ℕ) where
  -- ---- marks

  -- idle inputs do not change the mark of a group that has other members
  pub idle_mark : (g h : ℕ) → 0 < g → g < 2 ^ n → h < 2 ^ n → Idle m n pos f g h → marked m n pos f h ≡ marked m n pos f g
  idle_mark g h some g< h< rest = go (way m n pos f g g<) (way m n pos f h h<)
    where
      same : multiplicity m n f g ≡ multiplicity m n f h
      same = idle_few m n pos f g h g< h< rest

      low : g ≤ h
      low = inside_le n g h g< h< rest.part

      go : Way m n f (marked m n pos f) g → Way m n f (marked m n pos f) h → marked m n pos f h ≡ marked m n pos f g
      go (to_two _ _ _ e) _ = (idle_marks m n pos f g h some g< h< rest).0 e ∙ sym e
      go (to_none _ e) (to_two _ _ _ d) = absurd (omega (arith, e, (idle_marks m n pos f g h some g< h< rest).1 d))
      go (to_one _ _ _ _ e) (to_two _ _ _ d) = absurd (omega (arith, e, (idle_marks m n pos f g h some g< h< rest).1 d))
      go (to_none _ e) (to_none _ d) = d ∙ sym e
      go (to_none over _) (to_one _ few _ _ _) = absurd (over some (omega (arith, few, same)))
      go (to_one _ few _ _ _) (to_none over _) = absurd (over (omega (arith, low)) (omega (arith, few, same)))
      go (to_one _ _ _ _ e) (to_one _ _ _ _ d) = d ∙ sym e

  -- the mark of a non-empty group h, from any group g inside it that has all its members that matter
  pub mattering_mark : (g h : ℕ) → 0 < h → g < 2 ^ n → h < 2 ^ n → Idle m n pos f g h → marked m n pos f h ≡ cond (eqb g 0) 2 (marked m n pos f g)
  mattering_mark g h some g< h< rest =
      by_cases (dec_lt 0 g)
      (λ more. rw (ne_eqb g 0 (λ e. omega arith)) (idle_mark g h more g< h< rest)) λ none.
      let empty : g ≡ 0 = omega arith in
      rw (eq-eqb g 0 empty) (all_idle_mark m n pos f h some h< (λ i i< is. rest.idle i i< is (ap (member i) empty ∙ member_zero i)))
