-- The theorems of Trees/TreeExistence that rest on a definition which a must-fail edit changes: they stand here, so that the edit leaves specs/ readable.
-- Assumes nothing.
use Rattle.std.specs.Prelude.{◌≡◌, ◌↔◌}
use Rattle.laws.specs.Prelude.{ℕ, ◌∙◌, sym, List, arith}
use Rattle.rules.specs.Nets.Trees.{Tree, leaf, node, wiring_in, tree_value, TreeExists, UsesJust, GateTree, SomeTree}
use Rattle.rules.specs.Nets.Value.{value}
use Rattle.rules.specs.Nets.Wirings.{group_of, gates_in}
use Rattle.rules.specs.Sheets.SheetRules.{IsNet}
use Rattle.rules.specs.Sheets.Sheets.{Gate}
use Rattle.trees.specs.Trees.TreeLists.{tree_gates, lines_use, tree_net}
use Rattle.trees.proofs.Trees.TreeLists.{tree_net_value}
use Rattle.trees.specs.Trees.TreeExistence.{net_is_gate_tree}

module _ (m n : ℕ) where
  -- each tree is some net, on the same leaves, ..
  pub tree_is_net : (t : Tree) → GateTree m n t
      → (gates : List Gate) × IsNet m n gates × ((p : ℕ) → value m n gates p ≡ tree_value m n t p) × UsesJust n gates (group_of (wiring_in t))
  unfolding gates_in
  tree_is_net (leaf i) is = absurd (omega (arith, is.gates))
  tree_is_net (node digits a b) is = (
    tree_gates n 0 (node digits a b),
    tree_net n m (node digits a b) is.once is.gates is.filled,
    tree_net_value n m digits a b is.once,
    lines_use n (node digits a b) is.once is.gates,
  )

  -- so one computes the table exactly if the other does
  pub trees_are_nets : (f : ℕ → ℕ) → SomeTree m n f ↔ TreeExists m n f
  trees_are_nets f = (
    λ some. let net = tree_is_net some.0 some.1 in (net.0, net.1, λ p h. net.2 p ∙ some.2 p h),
    λ some. let tree = net_is_gate_tree m n some.0 some.1 in (tree.0, tree.1, λ p h. sym (tree.2 p) ∙ some.2 p h),
  )
