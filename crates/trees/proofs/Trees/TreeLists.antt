-- The theorems of Trees/TreeLists that rest on a definition which a must-fail edit changes: they stand here, so that the edit leaves specs/ readable.
-- Assumes nothing.
use Rattle.std.specs.Prelude.{◌+◌, ◌-◌, ◌*◌, ◌≡◌, ◌++◌}
use Rattle.laws.specs.Prelude.{ℕ, ◌∙◌, List}
use Rattle.laws.specs.Prelude.{arith, length, get_or}
use Rattle.rules.specs.Lists.{with_each}
use Rattle.rules.specs.Nets.Trees.{Tree, leaf, node, wiring_in, EachOnce, tree_value}
use Rattle.rules.specs.Nets.Value.{value, gate_value, with_gates, value_with}
use Rattle.rules.specs.Nets.Wirings.{gates_in, reference_to}
use Rattle.rules.specs.Sheets.Sheets.{Gate, levels_at}
use Rattle.laws.specs.Lists.WithEach.{with_each_append, with_each_length, with_each_earlier, with_each_last}
use Rattle.trees.specs.Trees.TreeLists.{Valued, below_length, gates_of, levels_valued, lines_length, own_line_of, ref_to, reference_back, tree_gates}

module _ (n : ℕ) where
  -- the lines below the gate that joins the two
  abbrev below : ℕ → Tree → Tree → List Gate
  below before a b = tree_gates n before a ++ tree_gates n (before + gates_of a) b

  module _ (m : ℕ) where
    -- ---- the value

    -- and a tree's lines add its gates' values
    valued_after : (p before : ℕ) (vs : List ℕ) (t : Tree) → Valued n m p before vs → Valued n m p (before + gates_of t) (with_gates m vs (tree_gates n before t))
    valued_after p before vs t valued = (
      omega (arith, with_each_length (gate_value m) vs (tree_gates n before t), lines_length n before t, valued.0),
      λ i h. with_each_earlier (gate_value m) 0 vs (tree_gates n before t) i (omega arith) ∙ valued.1 i h,
    )

    -- the lines after a tree's do not change the value at the reference to it
    value_kept : (p before : ℕ) (vs : List ℕ) (t : Tree) (gates : List Gate) → EachOnce n (wiring_in t) → Valued n m p before vs
        → get_or (with_gates m (with_gates m vs (tree_gates n before t)) gates) (ref_to n before t) 0
        ≡ get_or (with_gates m vs (tree_gates n before t)) (ref_to n before t) 0
    value_kept p before vs t gates once valued =
        let after = valued_after p before vs t valued in
        let ref = reference_back n before t once in
        with_each_earlier (gate_value m) 0 (with_gates m vs (tree_gates n before t)) gates (ref_to n before t) (omega arith)

    -- a gate's value, from those at the references to its two trees
    value_of_gate : (before : ℕ) (vs : List ℕ) (digits : List ℕ) (a b : Tree) (x y : ℕ) → length vs ≡ n + before →
        let values = with_gates m (with_gates m vs (tree_gates n before a)) (tree_gates n (before + gates_of a) b) in
        get_or values (ref_to n before a) 0 ≡ x → get_or values (ref_to n (before + gates_of a) b) 0 ≡ y
        → get_or (with_gates m vs (tree_gates n before (node digits a b))) (ref_to n before (node digits a b)) 0 ≡ get_or digits (x * m + y) 0
    unfolding tree_gates reference_to gate_value
    value_of_gate before vs digits a b x y e left right =
        let own = n + before + gates_of a + gates_of b in
        with_each_last (gate_value m) 0 vs (below before a b) (own_line_of n before digits a b) own (omega (arith, below_length n before a b))
        ∙ rw (with_each_append, left, right)

    -- after a tree's lines, the value at the reference to it is the tree's
    value_at_reference : (p before : ℕ) (vs : List ℕ) (t : Tree) → EachOnce n (wiring_in t) → Valued n m p before vs
        → get_or (with_gates m vs (tree_gates n before t)) (ref_to n before t) 0 ≡ tree_value m n t p
    unfolding tree_gates with_each reference_to tree_value
    value_at_reference p before vs (leaf i) once valued = valued.1 i once
    value_at_reference p before vs (node digits a b) once valued =
        let mid = before + gates_of a in
        let after = valued_after p before vs a valued in
        let kept = value_kept p before vs a (tree_gates n mid b) once.1 valued in
        let left = kept ∙ value_at_reference p before vs a once.1 valued in
        let right = value_at_reference p mid (with_gates m vs (tree_gates n before a)) b once.2 after in
        value_of_gate before vs digits a b (tree_value m n a p) (tree_value m n b p) valued.0 left right

    -- the reference to the whole tree is to the last line
    last_reference : (digits : List ℕ) (a b : Tree) → n + length (tree_gates n 0 (node digits a b)) - 1 ≡ ref_to n 0 (node digits a b)
    unfolding reference_to gates_in
    last_reference digits a b = rw (lines_length n 0 (node digits a b)) (omega arith)

    pub tree_net_value : (digits : List ℕ) (a b : Tree) → EachOnce n (wiring_in (node digits a b)) → (p : ℕ)
        → value m n (tree_gates n 0 (node digits a b)) p ≡ tree_value m n (node digits a b) p
    tree_net_value digits a b once p =
        unfold value value_with in
        rw (last_reference digits a b) (value_at_reference p 0 (levels_at m n p) (node digits a b) once (levels_valued n m p))
