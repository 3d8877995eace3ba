-- Document 02, K12: "Panel makers now charge extra for a gate that ignores an input." The settled net has one gate fewer than leaves; every leaf
-- matters if two or more inputs do; and no net that computes the table, whatever its leaves, its wiring and its digits, has fewer gates.
-- Assumes nothing.
use Rattle.std.specs.Prelude.{◌<◌}
use Rattle.laws.specs.Prelude.{ℕ, ◌∙◌, sym, length}
use Rattle.rules.specs.Nets.Leaves.{mattering, leaves_of}
use Rattle.trees.specs.Groups.Members.{member_inside}
use Rattle.trees.specs.Leaves.Mattering.{Holding}
use Rattle.trees.specs.Leaves.LeafGroup.{leaves_matter}
use Rattle.trees.specs.Leaves.CutWirings.{Idle}

module _ (m n : ℕ) (pos : 0 < m) (several : 1 < n) (f : ℕ → ℕ) where
  -- if two or more inputs matter and g holds all that matter, the leaves are inside g and the rest of g does not matter
  pub leaves_idle : 1 < length (mattering m n f) → (g : ℕ) → Holding m n pos f g → Idle m n pos f (leaves_of m n f) g
  leaves_idle enough g holds = record {
    part = member_inside n (leaves_of m n f) g (λ i i< is. holds i i< (sym (leaves_matter m n pos f enough i i<) ∙ is));
    idle = λ i i< is out. sym (leaves_matter m n pos f enough i i<) ∙ out;
  }
