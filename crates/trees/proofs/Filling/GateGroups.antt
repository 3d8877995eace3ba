-- The theorems of Filling/GateGroups that rest on a definition which a must-fail edit changes: they stand here, so that the edit leaves specs/ readable.
-- Assumes nothing.
use Rattle.std.specs.Prelude.{◌↔◌}
use Rattle.laws.specs.Prelude.{ℕ, List}
use Rattle.rules.specs.Nets.Family.{SameWiring}
use Rattle.rules.specs.Nets.Trees.{Turned}
use Rattle.rules.specs.Nets.Wirings.{Wiring}
use Rattle.rules.specs.Sheets.SheetRules.{IsNet}
use Rattle.rules.specs.Sheets.Sheets.{Gate}
use Rattle.trees.specs.Trees.NetTree.{net_tree, net_wiring}
use Rattle.trees.specs.Families.NormalWirings.{turned_same}
use Rattle.trees.proofs.Families.NormalWirings.{same_turned}
use Rattle.trees.specs.Filling.GateGroups.{same_gates, same_leaves}

-- ---- one wiring

module _ (m n : ℕ) (gates others : List Gate) (net : IsNet m n gates) (net' : IsNet m n others) where
  abbrev first : Wiring
  first = net_wiring m n gates net

  abbrev second : Wiring
  second = net_wiring m n others net'

  -- .. and that holds exactly if the trees "differ only in which side is left".
  pub same_wiring : SameWiring n gates others ↔ Turned first second
  same_wiring = (
    λ same. same_turned n first second (net_tree m n gates net).once (net_tree m n others net').once (same_leaves m n gates others net net' same) ((same_gates m n gates others net net').0 same),
    λ turned. (same_gates m n gates others net net').1 (turned_same turned),
  )
