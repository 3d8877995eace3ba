-- The family of a table: a group's numbers below its count, and the group's wirings with few classes at each gate, up to sides. A group has
-- count 0 exactly if its mark is not 2, and its number 0 is the settled wiring.
-- Assumes nothing.
use Rattle.std.specs.Prelude.{◌<◌, ◌≡◌}
use Rattle.laws.specs.Prelude.{ℕ}
use Rattle.rules.specs.Groups.Marks.{marks_of}
use Rattle.rules.specs.Nets.Wirings.{Wiring}
use Rattle.trees.specs.Trees.Trees.{WiringOf, EachGate}
use Rattle.trees.specs.Groups.Classes.{Few}
use Rattle.trees.specs.Families.NormalWirings.{Normal}
use Rattle.trees.specs.Families.FamilyCounts.{group_trees}
use Rattle.trees.specs.Families.Families.{number_of, wired}

module _ (m n : ℕ) (pos : 0 < m) (f : ℕ → ℕ) where
  -- the wiring of number r of group g, and the number of a wiring
  abbrev pub wiring_numbered : ℕ → ℕ → Wiring
  wiring_numbered g r = wired n (marks_of m n f) n g r

  abbrev pub number_in : Wiring → ℕ
  number_in w = number_of n (marks_of m n f) w

  -- how many there are
  abbrev pub count_at : ℕ → ℕ
  count_at g = group_trees n (marks_of m n f) g

  -- ---- numbers and wirings

  -- properties of the wiring of a number
  pub record OfFamily (g r : ℕ) (w : Wiring) : Type 0 where
    pub of : WiringOf n g w
    pub few : EachGate (Few m n f) w
    pub norm : Normal n w
    pub number : number_in w ≡ r
