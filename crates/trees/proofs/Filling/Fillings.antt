-- The theorems of Filling/Fillings that rest on a definition which a must-fail edit changes: they stand here, so that the edit leaves specs/ readable.
-- Assumes nothing.
use Rattle.std.specs.Prelude.{◌<◌, ◌≡◌}
use Rattle.laws.specs.Prelude.{ℕ, true}
use Rattle.rules.specs.Nets.Filling.{filled}
use Rattle.rules.specs.Nets.Trees.{EachOnce, Filled, tree_value, UsesJust}
use Rattle.rules.specs.Nets.Value.{value}
use Rattle.rules.specs.Nets.Wirings.{Wiring, gate, group_of, gates_in, links_of}
use Rattle.rules.specs.Sheets.SheetRules.{IsNet}
use Rattle.trees.specs.Trees.Trees.{fill}
use Rattle.trees.proofs.Trees.GateLists.{gate_list_net, gate_list_uses, gate_list_value}
use Rattle.trees.specs.Filling.Fillings.{filled_list}

-- ---- the filling is the gate list

module _ (m n : ℕ) (f : ℕ → ℕ) where
  -- they follow the rules of a net, and have the tree's value
  pub filled_net : (w : Wiring) → EachOnce n w → 0 < gates_in w → Filled m (fill m n f true w) → IsNet m n (filled m n f (links_of n 0 w))
  filled_net w once some tables = rw (filled_list m n f w once) (gate_list_net m n f w once some tables)

  -- they use just the wiring's leaves
  pub filled_uses : (w : Wiring) → EachOnce n w → 0 < gates_in w → UsesJust n (filled m n f (links_of n 0 w)) (group_of w)
  filled_uses w once some = rw (filled_list m n f w once) (gate_list_uses m n f w once some)

  pub filled_value : (a b : Wiring) → EachOnce n (gate a b) → (p : ℕ)
      → value m n (filled m n f (links_of n 0 (gate a b))) p ≡ tree_value m n (fill m n f true (gate a b)) p
  filled_value a b once p = rw (filled_list m n f (gate a b) once) (gate_list_value m n f a b once p)
