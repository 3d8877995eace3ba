-- Section I's trees themselves, with any wiring and any digits: each is some net, and each net is one. So a tree computes a table exactly
-- if a net does.
-- Assumes nothing.
use Rattle.std.specs.Prelude.{◌+◌, ◌*◌, ◌≡◌}
use Rattle.laws.specs.Prelude.{ℕ, List, arith, get_or}
use Rattle.rules.specs.Nets.Trees.{Tree, leaf, node, wiring_in, EachOnce, tree_value, UsesJust, GateTree}
use Rattle.rules.specs.Nets.Value.{value}
use Rattle.rules.specs.Nets.Wirings.{group_of}
use Rattle.rules.specs.Sheets.SheetRules.{IsNet}
use Rattle.rules.specs.Sheets.Sheets.{Gate, levels_at}
use Rattle.trees.specs.Trees.NetTree.{TreeOf, net_tree, net_uses}
use Rattle.trees.specs.Trees.UsedOnce.{net_gates}
use Rattle.trees.specs.Trees.TreeLists.{levels_valued}

-- Section I's value at an assignment, given by its levels
unfoldable pub tree_value_at : ℕ → Tree → List ℕ → ℕ
tree_value_at m (leaf i) ls = get_or ls i 0
tree_value_at m (node digits a b) ls = get_or digits (tree_value_at m a ls * m + tree_value_at m b ls) 0

-- it is the value at the assignment's index
pub tree_at_levels : (m n : ℕ) (t : Tree) → EachOnce n (wiring_in t) → (p : ℕ) → tree_value_at m t (levels_at m n p) ≡ tree_value m n t p
unfolding tree_value_at tree_value
tree_at_levels m n (leaf i) once p = (levels_valued n m p).1 i once
tree_at_levels m n (node digits a b) once p = rw (tree_at_levels m n a once.1 p, tree_at_levels m n b once.2 p)

module _ (m n : ℕ) where
  -- the tree of a net
  pub net_gate_tree : (gates : List Gate) (net : IsNet m n gates) → GateTree m n (net_tree m n gates net).tree
  net_gate_tree gates net =
      let t : TreeOf m n gates = net_tree m n gates net in
      record { once = t.once; gates = omega (arith, net_gates m n gates net, net.some); filled = t.filled }

  -- .. and each net is a tree
  pub net_is_gate_tree : (gates : List Gate) → IsNet m n gates
      → (t : Tree) × GateTree m n t × ((p : ℕ) → value m n gates p ≡ tree_value m n t p) × UsesJust n gates (group_of (wiring_in t))
  net_is_gate_tree gates net =
      let t : TreeOf m n gates = net_tree m n gates net in
      (t.tree, net_gate_tree gates net, t.same, net_uses m n gates net)
