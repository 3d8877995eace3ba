-- "The layers of a net are the most gates on a way from an input to the output.": they are the depth of the net's tree.
-- Assumes nothing.
use Rattle.std.specs.Prelude.{◌<◌, ◌≤◌, ◌+◌, ◌-◌, ◌≡◌, ◌∷◌, ◌++◌}
use Rattle.laws.specs.Prelude.{ℕ, suc, sym, refl, List, [], map, Memᴰ, map-map}
use Rattle.laws.specs.Prelude.{arith, length, length-append, length-map}
use Rattle.rules.specs.Lists.{range}
use Rattle.rules.specs.Nets.Trees.{Tree, leaf, node, wiring_in}
use Rattle.rules.specs.Nets.Wirings.{Wiring, input, gate}
use Rattle.rules.specs.Sheets.SheetRules.{RefersBack}
use Rattle.rules.specs.Sheets.Sheets.{Gate}
use Rattle.rules.specs.Nets.Layers.{gate_ways, with_ways, ways_of, layers}
use Rattle.laws.specs.Lists.Places.{map_at}
use Rattle.laws.specs.Lists.Extremes.{most_bounds, most_listed}
use Rattle.laws.specs.Lists.WithEach.{with_each_length, gates_step}
use Rattle.trees.specs.Trees.Forest.{tree_at, joined_tree, with_trees, input_trees, inputs_length}

-- ---- the ways in a wiring

-- the ways from a leaf to the root, each by the number of gates on it
unfoldable pub ways_in : Wiring → List ℕ
ways_in (input i) = 0 ∷ []
ways_in (gate a b) = map suc (ways_in a ++ ways_in b)

-- there is one
pub some_way : (w : Wiring) → 0 < length (ways_in w)
unfolding ways_in
some_way (input i) = omega arith
some_way (gate a b) = rw (length-map, length-append) (omega (arith, some_way a))

-- ---- the ways to a reference are those of its tree

-- for ways of any kind: those at a gate are the ways at its two sides, each with one more gate
module _ (ways : Tree → List ℕ) (joins : (digits : List ℕ) (a b : Tree) → ways (node digits a b) ≡ map suc (ways a ++ ways b)) where
  gate_ways_lem : (forest : List Tree) (g : Gate) → g.left < length forest → g.right < length forest
      → gate_ways (map ways forest) g ≡ ways (joined_tree forest g)
  unfolding gate_ways
  gate_ways_lem forest g l< r< =
      rw (map_at ways forest g.left (leaf 0) [] l<, map_at ways forest g.right (leaf 0) [] r<) (sym (joins g.digits _ _))

  pub gates_ways : (gates : List Gate) (forest : List Tree) → RefersBack (length forest) gates
      → with_ways (map ways forest) gates ≡ map ways (with_trees forest gates)
  gates_ways = gates_step ways joined_tree gate_ways gate_ways_lem

-- the ways in a tree
abbrev ways_to : Tree → List ℕ
ways_to t = ways_in (wiring_in t)

ways_join : (digits : List ℕ) (a b : Tree) → ways_to (node digits a b) ≡ map suc (ways_to a ++ ways_to b)
unfolding ways_in
ways_join digits a b = refl

-- there is one way to an input
inputs_ways : (n : ℕ) → map ways_to (input_trees n) ≡ map (λ _. 0 ∷ []) (range 0 n)
unfolding input_trees ways_in
inputs_ways n = map-map ways_to leaf (range 0 n)

-- ---- the layers of a gate list

module _ (n : ℕ) (gates : List Gate) (some : 0 < length gates) (back : RefersBack n gates) where
  -- the last gate's tree
  abbrev last_tree : Tree
  last_tree = tree_at (with_trees (input_trees n) gates) (n + length gates - 1)

  -- the ways to the output are those in the last gate's tree
  pub last_ways : ways_of n gates ≡ ways_in (wiring_in last_tree)
  unfolding ways_of
  last_ways =
      rw (← inputs_ways, gates_ways ways_to ways_join gates (input_trees n) (rw inputs_length back))
      (map_at ways_to (with_trees (input_trees n) gates) (n + length gates - 1) (leaf 0) []
      (omega (arith, with_each_length joined_tree (input_trees n) gates, inputs_length n)))

  -- no way from an input to the output has more gates than there are layers, ..
  pub way_within : (k : ℕ) → Memᴰ k (ways_of n gates) → k ≤ layers n gates
  unfolding layers
  way_within k is = most_bounds k (ways_of n gates) is

  -- .. and some way has as many
  pub longest_way : Memᴰ (layers n gates) (ways_of n gates)
  unfolding layers
  longest_way = most_listed (ways_of n gates) (rw last_ways (some_way (wiring_in last_tree)))
