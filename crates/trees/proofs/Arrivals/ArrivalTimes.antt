-- The theorems of Arrivals/ArrivalTimes that rest on a definition which a must-fail edit changes: they stand here, so that the edit leaves specs/ readable.
-- Assumes nothing.
use Rattle.std.specs.Prelude.{◌+◌, ◌≡◌}
use Rattle.laws.specs.Prelude.{ℕ, max, ◌∙◌, sym, ap₂, List}
use Rattle.laws.specs.Prelude.{add_comm, get_or}
use Rattle.rules.specs.Nets.Arrivals.{settling_time}
use Rattle.rules.specs.Nets.Wirings.{Wiring, input, gate}
use Rattle.rules.specs.Sheets.SheetRules.{IsNet}
use Rattle.rules.specs.Sheets.Sheets.{Gate}
use Rattle.rules.specs.Nets.Layers.{layers}
use Rattle.trees.specs.Trees.NetTree.{net_wiring}
use Rattle.trees.specs.Shallow.Depths.{depth}
use Rattle.trees.proofs.Shallow.Layers.{net_layers_lem}
use Rattle.trees.specs.Arrivals.ArrivalTimes.{settling_tree, time_in}

-- ---- in a gate list

module _ (m n : ℕ) (gates : List Gate) (net : IsNet m n gates) where
  abbrev tree : Wiring
  tree = net_wiring m n gates net

  -- if every arrival is 0 and the delay is 1, it is the number of layers
  pub settling_layers : (arrivals : List ℕ) → ((i : ℕ) → get_or arrivals i 0 ≡ 0) → settling_time n gates 1 arrivals ≡ layers n gates
  unfolding time_in depth
  settling_layers arrivals none = settling_tree m n gates net 1 arrivals ∙ as_depth tree ∙ sym (net_layers_lem m n gates net)
    where
      as_depth : (w : Wiring) → time_in 1 (λ i. get_or arrivals i 0) w ≡ depth w
      as_depth (input i) = none i
      as_depth (gate a b) = ap₂ (λ (x y : ℕ). max x y + 1) (as_depth a) (as_depth b) ∙ add_comm (max (depth a) (depth b)) 1
