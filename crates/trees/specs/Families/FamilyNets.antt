-- "Every wiring that computes the table turns up under just one number, and number 0 is the settled net." "A family numbers the wirings on just
-- these" leaves (document 02, K12). Stated for nets: the net of each number below the count is on just the leaves and computes the table; nets of
-- different numbers are different wirings; and each net on just the leaves that computes the table is one wiring with the net of exactly one number.
-- The count is 0 exactly if no net computes the table, whatever its leaves.
-- Assumes nothing.
use Rattle.std.specs.Prelude.{◌<◌, ◌≡◌}
use Rattle.laws.specs.Prelude.{ℕ, List}
use Rattle.rules.specs.Groups.Marks.{marks_of}
use Rattle.rules.specs.Nets.Family.{tree_count, family_gates, SameWiring}
use Rattle.rules.specs.Nets.Leaves.{leaves_of}
use Rattle.rules.specs.Sheets.Sheets.{Gate}

module _ (m n : ℕ) (pos : 0 < m) (several : 1 < n) (f : ℕ → ℕ) where
  -- how many trees the table has on its leaves
  abbrev pub how_many : ℕ
  how_many = tree_count n (marks_of m n f) (leaves_of m n f)

  -- the net of a number
  abbrev pub family_gates_of : ℕ → List Gate
  family_gates_of r = family_gates m n f (marks_of m n f) r

  -- ---- every wiring

  -- the number of a net's wiring
  pub record OneNumber (gates : List Gate) : Type 0 where
    pub number : ℕ
    pub below : number < how_many
    pub same : SameWiring n gates (family_gates_of number)
    pub only : (s : ℕ) → s < how_many → SameWiring n gates (family_gates_of s) → s ≡ number
