-- The theorems of Trees/Existence that rest on a definition which a must-fail edit changes: they stand here, so that the edit leaves specs/ readable.
-- Assumes nothing.
use Rattle.std.specs.Prelude.{◌<◌, ◌^◌, ◌≡◌, ◌↔◌}
use Rattle.laws.specs.Prelude.{ℕ, ◌∙◌, true, List, arith}
use Rattle.rules.specs.Groups.Groups.{size, whole_group}
use Rattle.rules.specs.Groups.Marks.{mark_in, marks_of}
use Rattle.rules.specs.Nets.Filling.{filled}
use Rattle.rules.specs.Nets.Leaves.{leaves_of}
use Rattle.rules.specs.Nets.Settled.{settled_wiring, settled_gates}
use Rattle.rules.specs.Nets.Trees.{Computes, UsesJust, TreeExists, LeafTree}
use Rattle.rules.specs.Nets.Wirings.{Wiring, input, gate, gates_in, links_of}
use Rattle.rules.specs.Sheets.SheetRules.{IsNet}
use Rattle.rules.specs.Sheets.Sheets.{Gate}
use Rattle.trees.specs.Trees.Trees.{EachGate, WiringOf}
use Rattle.trees.specs.Trees.NetTree.{net_tree, net_wiring, net_group, net_group_below}
use Rattle.trees.specs.Groups.Classes.{Few}
use Rattle.trees.specs.Trees.Wirings.{group_some, fill_filled, fill_computes}
use Rattle.trees.proofs.Filling.Fillings.{filled_net, filled_uses, filled_value}
use Rattle.trees.specs.Groups.MarkRule.{marked}
use Rattle.trees.specs.Trees.MarkTwo.{wiring_mark, settled_wiring_of}
use Rattle.trees.specs.Leaves.Mattering.{Holding}
use Rattle.trees.specs.Leaves.LeafGroup.{leaves_below, leaves_hold, leaves_several}
use Rattle.trees.proofs.Leaves.CutWirings.{holding_marked, leaves_marked}
use Rattle.trees.specs.Trees.Existence.{net_few, net_holds, several_gates}

module _ (m n : ℕ) (pos : 0 < m) (f : ℕ → ℕ) where
  -- ---- what is necessary for a tree with the table

  -- the same for a net
  module _ (gates : List Gate) (net : IsNet m n gates) (has : Computes m n gates f) where
    -- its leaves have mark 2, and so do all inputs together
    pub net_marks : marked m n pos f (whole_group n) ≡ 2
    net_marks =
        (holding_marked m n pos f (net_group m n gates net) (group_some (net_wiring m n gates net)) (net_group_below m n gates net) (net_holds m n pos f gates net has)).0
        (wiring_mark m n pos f (net_wiring m n gates net) (net_tree m n gates net).once (net_few m n pos f gates net has))

  -- ---- what is sufficient

  -- a wiring of a group with two or more members that has every input that matters, with few classes at each gate: its filling is a net, ..
  module _ (g : ℕ) (several : 1 < size n g) (w : Wiring) (of : WiringOf n g w) where
    pub filled_computes : Holding m n pos f g → EachGate (Few m n f) w → ((p : ℕ) → p < m ^ n → f p < m)
        → IsNet m n (filled m n f (links_of n 0 w)) × Computes m n (filled m n f (links_of n 0 w)) f
    unfolding gates_in
    filled_computes holds few inks = go w of few (several_gates n g w of several)
      where
        go : (w : Wiring) → WiringOf n g w → EachGate (Few m n f) w → 0 < gates_in w
            → IsNet m n (filled m n f (links_of n 0 w)) × Computes m n (filled m n f (links_of n 0 w)) f
        go (input i) of few some = absurd (omega arith)
        go (gate a b) of few some = (
          filled_net m n f (gate a b) of.0 some (fill_filled m n pos f (gate a b) of.0 few inks true),
          λ p h. filled_value m n f a b of.0 p ∙ fill_computes m n pos f a b of.0 (rw of.1 holds) few p h,
        )

    -- .. and uses just the group's inputs
    pub filled_leaves : UsesJust n (filled m n f (links_of n 0 w)) g
    filled_leaves = rw of.1 at (filled_uses m n f w of.0 (several_gates n g w of several))

-- ---- the settled net

module _ (m n : ℕ) (pos : 0 < m) (several : 1 < n) (f : ℕ → ℕ) where
  -- the leaves' settled wiring, if the whole group has mark 2
  settled_of_lem : marked m n pos f (whole_group n) ≡ 2 →
      let w = settled_wiring n (marks_of m n f) (leaves_of m n f) in
      WiringOf n (leaves_of m n f) w × EachGate (Few m n f) w
  settled_of_lem two = settled_wiring_of m n pos f (leaves_of m n f) (leaves_below m n pos f) ((leaves_marked m n pos f several).1 two)

  -- If the whole group has mark 2, the settled net is a net, and has the table, ..
  pub settled_net_lem : ((p : ℕ) → p < m ^ n → f p < m) → marked m n pos f (whole_group n) ≡ 2
      → IsNet m n (settled_gates m n f (marks_of m n f)) × Computes m n (settled_gates m n f (marks_of m n f)) f
  unfolding settled_gates
  settled_net_lem inks two =
      let w = settled_of_lem two in
      filled_computes m n pos f (leaves_of m n f) (leaves_several m n pos f several) (settled_wiring n (marks_of m n f) (leaves_of m n f)) w.0
      (leaves_hold m n pos f) w.1 inks

  -- .. and "has just the inputs that matter as leaves", made up to two
  pub settled_leaves : marked m n pos f (whole_group n) ≡ 2 → UsesJust n (settled_gates m n f (marks_of m n f)) (leaves_of m n f)
  unfolding settled_gates
  settled_leaves two =
      filled_leaves m n pos f (leaves_of m n f) (leaves_several m n pos f several) (settled_wiring n (marks_of m n f) (leaves_of m n f)) (settled_of_lem two).0

  -- "A tree exists exactly when the whole group has mark 2.", ..
  pub tree_exists : ((p : ℕ) → p < m ^ n → f p < m) → TreeExists m n f ↔ (mark_in (marks_of m n f) (whole_group n) ≡ 2)
  tree_exists inks = (
    λ t. net_marks m n pos f t.0 t.1 t.2,
    λ two. (settled_gates m n f (marks_of m n f), (settled_net_lem inks two).0, (settled_net_lem inks two).1),
  )

  -- .. and exactly if there is one on just the leaves (document 02, K12)
  pub leaf_tree_exists : ((p : ℕ) → p < m ^ n → f p < m) → TreeExists m n f ↔ LeafTree m n f
  leaf_tree_exists inks = (
    λ t.
        let two = (tree_exists inks).0 t in
        (settled_gates m n f (marks_of m n f), (settled_net_lem inks two).0, (settled_net_lem inks two).1, settled_leaves two),
    λ t. (t.0, t.1, t.2),
  )
