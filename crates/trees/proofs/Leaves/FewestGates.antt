-- The theorems of Leaves/FewestGates that rest on a definition which a must-fail edit changes: they stand here, so that the edit leaves specs/ readable.
-- Assumes nothing.
use Rattle.std.specs.Prelude.{◌<◌, ◌≤◌, ◌^◌, ◌≡◌}
use Rattle.laws.specs.Prelude.{ℕ, suc, ◌∙◌, sym, ap, by_cases, List, dec_lt, arith, length}
use Rattle.rules.specs.Groups.Groups.{size, whole_group}
use Rattle.rules.specs.Groups.Marks.{marks_of}
use Rattle.rules.specs.Nets.Leaves.{mattering, leaves_of}
use Rattle.rules.specs.Nets.Settled.{settled_gates}
use Rattle.rules.specs.Nets.Trees.{Tree, wiring_in, tree_value, EachOnce, Computes, GateTree}
use Rattle.rules.specs.Nets.Wirings.{Wiring, group_of, gates_in}
use Rattle.rules.specs.Sheets.SheetRules.{IsNet}
use Rattle.rules.specs.Sheets.Sheets.{Gate}
use Rattle.trees.specs.Trees.Trees.{EachGate}
use Rattle.trees.specs.Groups.Classes.{Few}
use Rattle.trees.specs.Trees.Wirings.{gates_in_size}
use Rattle.trees.specs.Trees.NetTree.{net_tree, net_group_lem, net_wiring}
use Rattle.trees.specs.Trees.UsedOnce.{net_size, net_gates}
use Rattle.trees.specs.Groups.MarkRule.{marked}
use Rattle.trees.specs.Leaves.Mattering.{Holding}
use Rattle.trees.specs.Leaves.LeafGroup.{leaves_below, leaves_size, leaves_some}
use Rattle.trees.proofs.Leaves.CutWirings.{cut}
use Rattle.trees.specs.Trees.Existence.{tree_few, computes_holds, net_few, net_holds}
use Rattle.trees.proofs.Trees.Existence.{net_marks, settled_net_lem, settled_leaves}
use Rattle.trees.specs.Leaves.FewestGates.{leaves_idle}

module _ (m n : ℕ) (pos : 0 < m) (several : 1 < n) (f : ℕ → ℕ) where
  -- a wiring with a gate, with few classes at each gate and with every input that matters, has at least as many leaves as the table
  pub wiring_gates_least : (w : Wiring) → EachOnce n w → 0 < gates_in w → EachGate (Few m n f) w → Holding m n pos f (group_of w)
      → size n (leaves_of m n f) ≤ suc (gates_in w)
  wiring_gates_least w once some few holds =
      by_cases (dec_lt 1 (length (mattering m n f)))
      (λ enough.
      let less = cut m n pos f w once few (leaves_of m n f) (leaves_some m n pos f several) (leaves_below m n pos f) (leaves_idle m n pos several f enough (group_of w) holds) in
      omega (arith, less.no_more, gates_in_size n less.wiring less.of_group.0, ap (size n) less.of_group.1))
      (λ scarce. omega (arith, leaves_size m n pos f several))

  -- so does every tree that computes the table, ..
  pub tree_gates_least : (t : Tree) → GateTree m n t → ((p : ℕ) → p < m ^ n → tree_value m n t p ≡ f p)
      → size n (leaves_of m n f) ≤ suc (gates_in (wiring_in t))
  tree_gates_least t is has =
      wiring_gates_least (wiring_in t) is.once is.gates (tree_few m n pos f t is.once has is.filled) (computes_holds m n pos f t is.once has)

  -- .. and every net
  pub net_gates_least : (gates : List Gate) → IsNet m n gates → Computes m n gates f → size n (leaves_of m n f) ≤ suc (length gates)
  net_gates_least gates net has =
      let count = net_gates m n gates net in
      omega (
        arith,
        wiring_gates_least (net_wiring m n gates net) (net_tree m n gates net).once (omega (arith, net.some)) (net_few m n pos f gates net has)
            (net_holds m n pos f gates net has),
      )

  -- ---- the settled net

  module _ (inks : (p : ℕ) → p < m ^ n → f p < m) where
    abbrev settled : List Gate
    settled = settled_gates m n f (marks_of m n f)

    module _ (two : marked m n pos f (whole_group n) ≡ 2) where
      -- it has one gate fewer than leaves
      pub settled_gates_lem : suc (length settled) ≡ size n (leaves_of m n f)
      settled_gates_lem =
          let net = (settled_net_lem m n pos several f inks two).0 in
          sym (net_size m n settled net)
          ∙ ap (size n) (net_group_lem m n settled net (leaves_of m n f) (leaves_below m n pos f) (settled_leaves m n pos several f two))

    -- No net that computes the table has fewer gates than the settled net.
    pub fewest_gates : (gates : List Gate) → IsNet m n gates → Computes m n gates f → length settled ≤ length gates
    fewest_gates gates net has =
        omega (arith, settled_gates_lem (net_marks m n pos f gates net has), net_gates_least gates net has)
