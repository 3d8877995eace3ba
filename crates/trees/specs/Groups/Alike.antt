-- Alike, as a statement and as the test that document 01's definition computes. It is an equivalence relation.
-- Assumes nothing.
use Rattle.std.specs.Prelude.{◌<◌, ◌+◌, ◌^◌, ◌≡◌}
use Rattle.laws.specs.Prelude.{ℕ, ◌∙◌, sym, ap, refl, ◌∎, ◌≡⟨◌⟩◌, true, eq-eqb, eqb-true}
use Rattle.rules.specs.Groups.Groups.{part, points, others, alike, alike_over}
use Rattle.rules.specs.Nets.Trees.{Apart}
use Rattle.laws.specs.Lists.Tests.{all_mem, mem_all}
use Rattle.trees.specs.Trees.Trees.{Alike, mix}
use Rattle.trees.specs.Groups.Levels.{mix_join, mix_swap}
use Rattle.trees.specs.Groups.Points.{part_in_points, points_are_parts}

module _ (m n : ℕ) (pos : 0 < m) (f : ℕ → ℕ) where
  pub alike_refl : (g p : ℕ) → Alike m n f g p p
  alike_refl g p y = refl

  pub alike_sym : (g p q : ℕ) → Alike m n f g p q → Alike m n f g q p
  alike_sym g p q h y = sym (h y)

  pub alike_trans : (g p q r : ℕ) → Alike m n f g p q → Alike m n f g q r → Alike m n f g p r
  alike_trans g p q r h k y = h y ∙ k y

  -- assignments with equal levels at the members are alike
  pub alike_part : (g p q : ℕ) → part m n g p ≡ part m n g q → Alike m n f g p q
  unfolding mix
  alike_part g p q e y = rw e

  -- the test agrees with the statement
  pub alike_holds : (g p q : ℕ) → g < 2 ^ n → alike m n f g (part m n g p) (part m n g q) ≡ true → Alike m n f g p q
  unfolding mix alike alike_over
  alike_holds g p q g< h y = eqb-true _ _ (all_mem _ (part_in_points m n pos (others n g) y) h)

  pub alike_tested : (g p q : ℕ) → g < 2 ^ n → Alike m n f g p q → alike m n f g (part m n g p) (part m n g q) ≡ true
  unfolding mix alike alike_over
  alike_tested g p q g< h =
      mem_all _ (points m n (others n g))
      (λ y i. eq-eqb _ _ (rw (points_are_parts m n pos (others n g) y i).0 at (h y)))

  -- if p and q are alike for both parts, they are alike for the whole
  pub alike_join : (a b p q : ℕ) → a < 2 ^ n → b < 2 ^ n → Apart n a b → Alike m n f a p q → Alike m n f b p q → Alike m n f (a + b) p q
  alike_join a b p q a< b< apart h k y =
      f (mix m n (a + b) p y) ≡⟨ ap f (join p) ⟩
      f (mix m n a p (mix m n b p y)) ≡⟨ h (mix m n b p y) ⟩
      f (mix m n a q (mix m n b p y)) ≡⟨ ap f (swap q p) ⟩
      f (mix m n b p (mix m n a q y)) ≡⟨ k (mix m n a q y) ⟩
      f (mix m n b q (mix m n a q y)) ≡⟨ ap f (sym (join q ∙ swap q q)) ⟩
      f (mix m n (a + b) q y) ∎
    where
      join : (r : ℕ) → mix m n (a + b) r y ≡ mix m n a r (mix m n b r y)
      join r = mix_join m n pos a b a< b< apart r y

      swap : (r s : ℕ) → mix m n a r (mix m n b s y) ≡ mix m n b s (mix m n a r y)
      swap r s = mix_swap m n pos a b a< b< apart r s y
