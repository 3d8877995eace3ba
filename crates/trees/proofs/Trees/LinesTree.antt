-- The theorems of Trees/LinesTree that rest on a definition which a must-fail edit changes: they stand here, so that the edit leaves specs/ readable.
-- Assumes nothing.
use Rattle.std.specs.Prelude.{◌<◌, ◌+◌, ◌-◌, ◌≡◌, ◌++◌}
use Rattle.laws.specs.Prelude.{ℕ, ◌∙◌, true, List, arith, length, length-append}
use Rattle.rules.specs.Lists.{with_each}
use Rattle.rules.specs.Nets.Filling.{filled}
use Rattle.rules.specs.Nets.Trees.{Tree, leaf, node, wiring_in, EachOnce}
use Rattle.rules.specs.Nets.Wirings.{Wiring, gates_in, reference_to, links_of}
use Rattle.rules.specs.Sheets.Sheets.{Gate}
use Rattle.trees.specs.Trees.Trees.{fill}
use Rattle.laws.specs.Lists.WithEach.{with_each_append, with_each_length, with_each_earlier, with_each_last}
use Rattle.trees.specs.Trees.Forest.{tree_at, joined_tree, with_trees, input_trees, inputs_length, input_at}
use Rattle.trees.specs.Trees.GateLists.{reference_below}
use Rattle.trees.proofs.Trees.GateLists.{list_lines}
use Rattle.trees.specs.Trees.TreeLists.{tree_gates, lines_length}
use Rattle.trees.specs.Filling.Fillings.{filled_list}

-- ---- a tree's own lines

module _ (n : ℕ) where
  -- `forest` holds the trees of the references before a tree's lines: the inputs' first
  abbrev Planted : ℕ → List Tree → Type 0
  Planted before forest = (length forest ≡ n + before) × ((i : ℕ) → i < n → tree_at forest i ≡ leaf i)

  -- the trees after a tree's lines
  abbrev trees_after : List Tree → ℕ → Tree → List Tree
  trees_after forest before t = with_trees forest (tree_gates n before t)

  planted_after : (before : ℕ) (forest : List Tree) (t : Tree) → Planted before forest
      → Planted (before + gates_in (wiring_in t)) (trees_after forest before t)
  planted_after before forest t planted = (
    omega (arith, with_each_length joined_tree forest (tree_gates n before t), lines_length n before t, planted.0),
    λ i h. with_each_earlier joined_tree (leaf 0) forest (tree_gates n before t) i (omega arith) ∙ planted.1 i h,
  )

  -- after a tree's lines, the tree at the reference to it is that tree
  tree_at_reference : (before : ℕ) (forest : List Tree) (t : Tree) → EachOnce n (wiring_in t) → Planted before forest
      → tree_at (trees_after forest before t) (reference_to n before (wiring_in t)) ≡ t
  unfolding tree_gates with_each reference_to
  tree_at_reference before forest (leaf i) once planted = planted.1 i once
  tree_at_reference before forest (node digits a b) once planted =
      let mid = before + gates_in (wiring_in a) in
      let after_a = planted_after before forest a planted in
      let below : List Gate = tree_gates n before a ++ tree_gates n mid b in
      let left = with_each_earlier joined_tree (leaf 0) (trees_after forest before a) (tree_gates n mid b) (reference_to n before (wiring_in a))
      (omega (arith, after_a.0, reference_below n before (wiring_in a) once.1))
      ∙ tree_at_reference before forest a once.1 planted in
      let right = tree_at_reference mid (trees_after forest before a) b once.2 after_a in
      let own : n + before + gates_in (wiring_in a) + gates_in (wiring_in b) ≡ length forest + length below =
      omega (arith, length-append (tree_gates n before a) (tree_gates n mid b), lines_length n before a, lines_length n mid b, planted.0) in
      with_each_last joined_tree (leaf 0) forest below _ _ own ∙ rw (with_each_append, left, right)

  -- the tree of a tree's own lines
  pub lines_tree : (digits : List ℕ) (a b : Tree) → EachOnce n (wiring_in (node digits a b)) →
      let gates = tree_gates n 0 (node digits a b) in
      tree_at (with_trees (input_trees n) gates) (n + length gates - 1) ≡ node digits a b
  unfolding reference_to gates_in
  lines_tree digits a b once =
      let whole : Tree = node digits a b in
      let last : n + length (tree_gates n 0 whole) - 1 ≡ reference_to n 0 (wiring_in whole) = omega (arith, lines_length n 0 whole) in
      rw last (tree_at_reference 0 (input_trees n) whole once (omega (arith, inputs_length n), input_at n))

-- ---- the class rule's tree

module _ (m n : ℕ) (f : ℕ → ℕ) where
  -- a wiring's links filled are the lines of its filling
  pub filled_lines : (w : Wiring) → EachOnce n w → filled m n f (links_of n 0 w) ≡ tree_gates n 0 (fill m n f true w)
  filled_lines w once = filled_list m n f w once ∙ list_lines m n f true 0 w
