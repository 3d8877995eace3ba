-- "the whole group has as many classes as distinct inks"
-- Assumes nothing.
use Rattle.std.specs.Prelude.{◌<◌, ◌^◌, ◌≡◌, ◌∷◌}
use Rattle.laws.specs.Prelude.{ℕ, ◌∙◌, sym, ap, ap₂, fun_ext, Bool, and-true, List, [], map, add-zero, sub_self, eqb, length, length-map}
use Rattle.rules.specs.Groups.Groups.{whole_group, others, points, alike_over, firsts, classes, multiplicity}
use Rattle.rules.specs.Lists.{range, all}
use Rattle.laws.specs.Lists.Tests.{all_cons}
use Rattle.trees.specs.Groups.Firsts.{firsts_map}
use Rattle.trees.specs.Groups.Points.{points_whole, points_empty}

-- the inks of a table, each once, in the order in which they first appear
unfoldable pub distinct_inks : List ℕ → List ℕ
distinct_inks inks = firsts eqb [] inks

-- if there are no other inputs, alike means the same ink
alone : (f : ℕ → ℕ) (p q : ℕ) → alike_over f (0 ∷ []) p q ≡ eqb (f p) (f q)
unfolding alike_over all
alone f p q = simp (all_cons, add-zero, and-true)

module _ (m n : ℕ) (pos : 0 < m) (f : ℕ → ℕ) where
  whole_classes : classes m n f (whole_group n) ≡ firsts (λ p q. eqb (f p) (f q)) [] (range 0 (m ^ n))
  unfolding classes others
  whole_classes =
      ap₂ (λ (ys ps : List ℕ). firsts (alike_over f ys) [] ps)
      (ap (points m n) (sub_self (whole_group n)) ∙ points_empty m n pos) (points_whole m n pos)
      ∙ ap (λ (test : ℕ → ℕ → Bool). firsts test [] (range 0 (m ^ n))) (fun_ext (λ p. fun_ext (alone f p)))

  pub whole_multiplicity : multiplicity m n f (whole_group n) ≡ length (distinct_inks (map f (range 0 (m ^ n))))
  unfolding multiplicity distinct_inks
  whole_multiplicity =
      ap length whole_classes
      ∙ sym (length-map (firsts (λ p q. eqb (f p) (f q)) [] (range 0 (m ^ n))) f)
      ∙ ap length (firsts_map f eqb [] (range 0 (m ^ n)))
