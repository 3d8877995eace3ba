-- The trees below the references: an input's is its leaf, and a gate's joins those of its two references. The values of the
-- references are the values of their trees.
-- Assumes nothing.
use Rattle.std.specs.Prelude.{◌<◌, ◌+◌, ◌-◌, ◌≡◌}
use Rattle.laws.specs.Prelude.{ℕ, ◌∙◌, ap, List, map, map-map, zero-add, arith, length, get_or}
use Rattle.rules.specs.Lists.{range, with_each}
use Rattle.rules.specs.Nets.Trees.{Tree, leaf, node, tree_value}
use Rattle.rules.specs.Nets.Value.{gate_value, with_gates, value, value_with}
use Rattle.rules.specs.Sheets.SheetRules.{RefersBack}
use Rattle.rules.specs.Sheets.Sheets.{Gate, levels_at}
use Rattle.laws.specs.Lists.Places.{map_at}
use Rattle.laws.specs.Lists.Ranges.{map_range_length, map_range_at}
use Rattle.laws.specs.Lists.WithEach.{with_each_length, gates_step}

-- the tree of a reference
abbrev pub tree_at : List Tree → ℕ → Tree
tree_at forest r = get_or forest r (leaf 0)

-- the tree of one more gate
abbrev pub joined_tree : List Tree → Gate → Tree
joined_tree forest g = node g.digits (tree_at forest g.left) (tree_at forest g.right)

-- the trees of all references: those given, then the gates', in order
abbrev pub with_trees : List Tree → List Gate → List Tree
with_trees forest gates = with_each joined_tree forest gates

-- the trees of the inputs
unfoldable pub input_trees : ℕ → List Tree
input_trees n = map leaf (range 0 n)

-- ---- lengths

-- each input has a tree
pub inputs_length : (n : ℕ) → length (input_trees n) ≡ n
unfolding input_trees
inputs_length n = map_range_length leaf 0 n

-- the first n references are the inputs
pub input_at : (n i : ℕ) → i < n → tree_at (input_trees n) i ≡ leaf i
unfolding input_trees
input_at n i h = map_range_at leaf 0 n i (leaf 0) h ∙ ap leaf (zero-add i)

-- ---- values

module _ (m n p : ℕ) where
  -- a tree's value at index p
  abbrev value_of : Tree → ℕ
  value_of t = tree_value m n t p

  -- a gate's value is its tree's
  gate_value_lem : (forest : List Tree) (g : Gate) → g.left < length forest → g.right < length forest
      → gate_value m (map value_of forest) g ≡ value_of (joined_tree forest g)
  unfolding gate_value tree_value
  gate_value_lem forest g l< r< =
      rw (map_at value_of forest g.left (leaf 0) 0 l<, map_at value_of forest g.right (leaf 0) 0 r<)

  -- every reference's value is its tree's
  gates_values : (gates : List Gate) (forest : List Tree) → RefersBack (length forest) gates
      → with_gates m (map value_of forest) gates ≡ map value_of (with_trees forest gates)
  gates_values = gates_step value_of joined_tree (gate_value m) gate_value_lem

  -- an input's value is its level
  inputs_values : map value_of (input_trees n) ≡ levels_at m n p
  unfolding input_trees levels_at tree_value
  inputs_values = map-map value_of leaf (range 0 n)

  -- the value of a gate list is that of its last gate's tree
  pub last_value : (gates : List Gate) → 0 < length gates → RefersBack n gates
      → value m n gates p ≡ tree_value m n (tree_at (with_trees (input_trees n) gates) (n + length gates - 1)) p
  unfolding value value_with
  last_value gates some back =
      rw (← inputs_values, gates_values gates (input_trees n) (rw inputs_length back))
      (map_at value_of (with_trees (input_trees n) gates) (n + length gates - 1) (leaf 0) 0
      (omega (arith, with_each_length joined_tree (input_trees n) gates, inputs_length n)))
