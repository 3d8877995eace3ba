-- The theorems of Shallow/ShallowNet that rest on a definition which a must-fail edit changes: they stand here, so that the edit leaves specs/ readable.
-- Assumes nothing.
use Rattle.std.specs.Prelude.{◌<◌, ◌≤◌, ◌^◌, ◌≡◌}
use Rattle.laws.specs.Prelude.{ℕ, ◌∙◌, sym, by_cases, List, dec_lt, arith, length}
use Rattle.rules.specs.Groups.Groups.{whole_group}
use Rattle.rules.specs.Groups.Marks.{marks_of}
use Rattle.rules.specs.Nets.Filling.{filled}
use Rattle.rules.specs.Nets.Leaves.{mattering, leaves_of}
use Rattle.rules.specs.Nets.Trees.{Tree, wiring_in, tree_value, EachOnce, Computes, UsesJust, GateTree}
use Rattle.rules.specs.Nets.Wirings.{Wiring, input, gate, group_of, gates_in, links_of}
use Rattle.rules.specs.Sheets.SheetRules.{IsNet}
use Rattle.rules.specs.Sheets.Sheets.{Gate}
use Rattle.rules.specs.Nets.Layers.{layers}
use Rattle.rules.specs.Nets.Shallow.{shallow_wiring, shallow_gates}
use Rattle.trees.specs.Trees.Trees.{EachGate, WiringOf}
use Rattle.trees.specs.Groups.Classes.{Few}
use Rattle.trees.specs.Trees.NetTree.{net_tree}
use Rattle.trees.specs.Groups.MarkRule.{marked}
use Rattle.trees.specs.Leaves.Mattering.{Holding}
use Rattle.trees.specs.Leaves.LeafGroup.{leaves_below, leaves_hold, leaves_size, leaves_several, leaves_some}
use Rattle.trees.proofs.Leaves.CutWirings.{cut, leaves_marked}
use Rattle.trees.specs.Trees.Existence.{several_gates, tree_few, computes_holds}
use Rattle.trees.proofs.Trees.Existence.{filled_computes, filled_leaves}
use Rattle.trees.specs.Trees.TreeExistence.{net_gate_tree}
use Rattle.trees.specs.Leaves.FewestGates.{leaves_idle}
use Rattle.trees.specs.Shallow.Depths.{depth}
use Rattle.trees.proofs.Shallow.Layers.{net_layers_lem, filled_layers}
use Rattle.trees.specs.Shallow.FewestLayers.{fewest, fewest_small}
use Rattle.trees.specs.Shallow.Shallow.{shallow_wiring_of}
use Rattle.trees.proofs.Shallow.Shallow.{depth_at_least, shallow_depth}

-- a wiring with a gate has a layer
depth_some : (w : Wiring) → 0 < gates_in w → 0 < depth w
unfolding gates_in depth
depth_some (input i) some = absurd (omega arith)
depth_some (gate a b) some = omega arith

module _ (m n : ℕ) (pos : 0 < m) (several : 1 < n) (f : ℕ → ℕ) where
  -- the fewest layers of the leaves
  abbrev fewest_leaves : ℕ
  fewest_leaves = fewest n (marks_of m n f) (leaves_of m n f)

  -- ---- no tree has fewer layers

  -- With few classes at each gate and with every input that matters: inputs that do not matter may be cut out, and if fewer than two inputs
  -- matter, one layer is the least possible.
  wiring_at_least : (w : Wiring) → EachOnce n w → 0 < gates_in w → EachGate (Few m n f) w → Holding m n pos f (group_of w) → fewest_leaves ≤ depth w
  wiring_at_least w once some few holds =
      by_cases (dec_lt 1 (length (mattering m n f)))
      (λ enough.
      let less = cut m n pos f w once few (leaves_of m n f) (leaves_some m n pos f several) (leaves_below m n pos f)
      (leaves_idle m n pos several f enough (group_of w) holds) in
      let least = depth_at_least m n pos f less.wiring less.of_group.0 less.few in
      omega (arith, less.no_deeper, rw less.of_group.1 at least))
      (λ scarce.
      omega (
        arith,
        depth_some w some,
        leaves_size m n pos f several,
        fewest_small n (marks_of m n f) (leaves_of m n f) (leaves_below m n pos f) (leaves_some m n pos f several),
      ))

  -- a tree that has the table, whatever its leaves, its wiring and its digits
  pub tree_at_least : (t : Tree) → GateTree m n t → ((p : ℕ) → p < m ^ n → tree_value m n t p ≡ f p) → fewest_leaves ≤ depth (wiring_in t)
  tree_at_least t is has =
      wiring_at_least (wiring_in t) is.once is.gates (tree_few m n pos f t is.once has is.filled) (computes_holds m n pos f t is.once has)

  -- a net with the table
  pub net_at_least : (gates : List Gate) → IsNet m n gates → Computes m n gates f → fewest_leaves ≤ layers n gates
  net_at_least gates net has =
      rw (net_layers_lem m n gates net)
      (tree_at_least (net_tree m n gates net).tree (net_gate_tree m n gates net) (λ p h. sym ((net_tree m n gates net).same p) ∙ has p h))

  -- ---- the shallow net has as few

  -- the filling of a wiring with a gate has the wiring's layers
  wiring_layers : (w : Wiring) → EachOnce n w → 0 < gates_in w → layers n (filled m n f (links_of n 0 w)) ≡ depth w
  unfolding gates_in
  wiring_layers (input i) once some = absurd (omega arith)
  wiring_layers (gate a b) once some = filled_layers m n f a b once

  module _ (two : marked m n pos f (whole_group n) ≡ 2) where
    abbrev shallow : Wiring
    shallow = shallow_wiring n (marks_of m n f) (leaves_of m n f)

    leaves_two : marked m n pos f (leaves_of m n f) ≡ 2
    leaves_two = (leaves_marked m n pos f several).1 two

    shallow_of : WiringOf n (leaves_of m n f) shallow × EachGate (Few m n f) shallow
    shallow_of = shallow_wiring_of m n pos f (leaves_of m n f) (leaves_below m n pos f) leaves_two

    -- it is a net, and has the table, ..
    pub shallow_net_lem : ((p : ℕ) → p < m ^ n → f p < m)
        → IsNet m n (shallow_gates m n f (marks_of m n f)) × Computes m n (shallow_gates m n f (marks_of m n f)) f
    unfolding shallow_gates
    shallow_net_lem inks =
        filled_computes m n pos f (leaves_of m n f) (leaves_several m n pos f several) shallow shallow_of.0 (leaves_hold m n pos f) shallow_of.1 inks

    -- .. and uses "the same leaves"
    pub shallow_leaves : UsesJust n (shallow_gates m n f (marks_of m n f)) (leaves_of m n f)
    unfolding shallow_gates
    shallow_leaves = filled_leaves m n pos f (leaves_of m n f) (leaves_several m n pos f several) shallow shallow_of.0

    pub shallow_layers : layers n (shallow_gates m n f (marks_of m n f)) ≡ fewest_leaves
    unfolding shallow_gates
    shallow_layers =
        wiring_layers shallow shallow_of.0.0 (several_gates n (leaves_of m n f) shallow shallow_of.0 (leaves_several m n pos f several))
        ∙ shallow_depth m n pos f (leaves_of m n f) (leaves_below m n pos f) leaves_two

    -- "Every other tree computing that table has at least as many layers": every net, ..
    pub shallowest_net : (gates : List Gate) → IsNet m n gates → Computes m n gates f
        → layers n (shallow_gates m n f (marks_of m n f)) ≤ layers n gates
    shallowest_net gates net has = rw shallow_layers (net_at_least gates net has)

    -- .. and every tree, whatever its leaves, its wiring and its digits
    pub shallowest_tree : (t : Tree) → GateTree m n t → ((p : ℕ) → p < m ^ n → tree_value m n t p ≡ f p)
        → layers n (shallow_gates m n f (marks_of m n f)) ≤ depth (wiring_in t)
    shallowest_tree t is has = rw shallow_layers (tree_at_least t is has)
