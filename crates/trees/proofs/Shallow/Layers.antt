-- The theorems of Shallow/Layers that rest on a definition which a must-fail edit changes: they stand here, so that the edit leaves specs/ readable.
-- Assumes nothing.
use Rattle.std.specs.Prelude.{◌<◌, ◌+◌, ◌-◌, ◌≡◌, ◌++◌}
use Rattle.laws.specs.Prelude.{ℕ, ◌∙◌, sym, ap, true, false, List, add-zero}
use Rattle.laws.specs.Prelude.{arith, length, length-append}
use Rattle.rules.specs.Nets.Filling.{filled}
use Rattle.rules.specs.Nets.Trees.{Tree, node, wiring_in, EachOnce}
use Rattle.rules.specs.Nets.Wirings.{Wiring, input, gate, gates_in, links_of}
use Rattle.rules.specs.Sheets.SheetRules.{RefersBack, IsNet}
use Rattle.rules.specs.Sheets.Sheets.{Gate}
use Rattle.rules.specs.Nets.Layers.{most, layers}
use Rattle.laws.specs.Lists.Extremes.{most_append, most_suc}
use Rattle.trees.specs.Trees.Trees.{fill}
use Rattle.trees.specs.Trees.Forest.{tree_at, with_trees, input_trees}
use Rattle.trees.specs.Shallow.Depths.{depth}
use Rattle.trees.specs.Trees.NetTree.{net_tree, net_wiring}
use Rattle.trees.specs.Trees.TreeLists.{tree_gates, lines_length, lines_back}
use Rattle.trees.specs.Trees.GateLists.{fill_wiring}
use Rattle.trees.proofs.Trees.LinesTree.{lines_tree, filled_lines}
use Rattle.trees.specs.Shallow.Layers.{last_ways, some_way, ways_in}

-- ---- the ways in a wiring

-- the depth is the largest of them
pub depth_most : (w : Wiring) → most (ways_in w) ≡ depth w
unfolding ways_in depth most
depth_most (input i) = omega arith
depth_most (gate a b) =
    most_suc (ways_in a ++ ways_in b) (rw length-append (omega (arith, some_way a)))
    ∙ omega (arith, most_append (ways_in a) (ways_in b), depth_most a, depth_most b)

-- ---- the layers of a gate list

module _ (n : ℕ) (gates : List Gate) (some : 0 < length gates) (back : RefersBack n gates) where
  -- the last gate's tree
  abbrev last_tree : Tree
  last_tree = tree_at (with_trees (input_trees n) gates) (n + length gates - 1)

  pub last_layers : layers n gates ≡ depth (wiring_in last_tree)
  unfolding layers
  last_layers = ap most (last_ways n gates some back) ∙ depth_most (wiring_in last_tree)

-- the layers of a net are the depth of its tree
pub net_layers_lem : (m n : ℕ) (gates : List Gate) (net : IsNet m n gates) → layers n gates ≡ depth (net_wiring m n gates net)
net_layers_lem m n gates net =
    last_layers n gates net.some net.rules.back ∙ ap (λ (t : Tree). depth (wiring_in t)) (sym (net_tree m n gates net).last)

-- for a tree's own lines
pub lines_layers : (n : ℕ) (digits : List ℕ) (a b : Tree) → EachOnce n (wiring_in (node digits a b))
    → layers n (tree_gates n 0 (node digits a b)) ≡ depth (wiring_in (node digits a b))
unfolding gates_in
lines_layers n digits a b once =
    last_layers n (tree_gates n 0 (node digits a b)) (omega (arith, lines_length n 0 (node digits a b))) (rw add-zero at (lines_back n 0 (node digits a b) once))
    ∙ ap (λ (t : Tree). depth (wiring_in t)) (lines_tree n digits a b once)

-- for a wiring's links, filled
pub filled_layers : (m n : ℕ) (f : ℕ → ℕ) (a b : Wiring) → EachOnce n (gate a b)
    → layers n (filled m n f (links_of n 0 (gate a b))) ≡ depth (gate a b)
unfolding fill
filled_layers m n f a b once =
    ap (layers n) (filled_lines m n f (gate a b) once)
    ∙ lines_layers n _ (fill m n f false a) (fill m n f false b) (rw (fill_wiring m n f false a, fill_wiring m n f false b) once)
    ∙ ap depth (fill_wiring m n f true (gate a b))
