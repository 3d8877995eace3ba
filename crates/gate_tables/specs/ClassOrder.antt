-- A group's classes rise: each is listed by its least assignment.
-- Assumes nothing.
use Rattle.std.specs.Prelude.{◌<◌, ◌≤◌, ◌^◌, ◌≡◌}
use Rattle.laws.specs.Prelude.{ℕ, subst, List, Memᴰ, length, get_or}
use Rattle.rules.specs.Groups.Groups.{part, points, classes, multiplicity}
use Rattle.rules.specs.Nets.Filling.{class_number}
use Rattle.trees.specs.Groups.Points.{part_in_points}
use Rattle.trees.specs.Groups.Alike.{alike_sym}
use Rattle.trees.specs.Groups.Classes.{class_below, class_listed}
use Rattle.trees.specs.Filling.SettledRules.{classes_rise, class_least}

-- each number is below all later ones
abbrev pub Rises : List ℕ → Type 0
Rises xs = (i j : ℕ) → i < j → j < length xs → get_or xs i 0 < get_or xs j 0

module _ (m n : ℕ) (pos : 0 < m) (f : ℕ → ℕ) (g : ℕ) (g< : g < 2 ^ n) where
  pub classes_rising : Rises (classes m n f g)
  unfolding multiplicity
  classes_rising = classes_rise m n pos f g g<

  -- the listed assignment of a class is its least
  pub class_not_above : (p : ℕ) → part m n g p ≡ p → get_or (classes m n f g) (class_number m n f g p) 0 ≤ p
  class_not_above p p_own =
      class_least m n pos f g g< _ (class_below m n pos f g g< p) p
      (subst (λ (q : ℕ). Memᴰ q (points m n g)) p_own (part_in_points m n pos g p))
      (alike_sym m n pos f g p _ (class_listed m n pos f g g< p))
