-- The theorems of Families/FamilyNets that rest on a definition which a must-fail edit changes: they stand here, so that the edit leaves specs/ readable.
-- Assumes nothing.
use Rattle.std.specs.Prelude.{◌<◌, ◌^◌, ◌≡◌, ◌↔◌}
use Rattle.laws.specs.Prelude.{ℕ, ◌∙◌, sym, ap, subst, subst⁻¹, List, Memᴰ}
use Rattle.rules.specs.Groups.Marks.{marks_of}
use Rattle.rules.specs.Nets.Family.{tree_count, family_gates, gate_groups, SameWiring}
use Rattle.rules.specs.Nets.Filling.{filled}
use Rattle.rules.specs.Nets.Leaves.{leaves_of}
use Rattle.rules.specs.Nets.Settled.{settled_gates}
use Rattle.rules.specs.Nets.Trees.{Computes, TreeExists, UsesJust}
use Rattle.rules.specs.Nets.Wirings.{Wiring, group_of, links_of}
use Rattle.rules.specs.Sheets.SheetRules.{IsNet}
use Rattle.rules.specs.Sheets.Sheets.{Gate}
use Rattle.trees.specs.Trees.Trees.{EachGate}
use Rattle.trees.specs.Groups.Classes.{Few}
use Rattle.trees.specs.Trees.NetTree.{net_tree, net_wiring, net_uses, net_group_lem}
use Rattle.trees.specs.Leaves.LeafGroup.{leaves_below, leaves_hold, leaves_several}
use Rattle.trees.proofs.Leaves.CutWirings.{leaves_marked}
use Rattle.trees.specs.Trees.Existence.{net_few}
use Rattle.trees.proofs.Trees.Existence.{filled_computes, filled_leaves, tree_exists}
use Rattle.trees.specs.Families.NormalWirings.{groups_joined, Joins, SameGates, normal, normal_turned, turned_same}
use Rattle.trees.proofs.Families.NormalWirings.{normal_known}
use Rattle.trees.specs.Families.FamilyCounts.{counted_two}
use Rattle.trees.specs.Families.FamilyWirings.{wiring_numbered, number_in, OfFamily}
use Rattle.trees.proofs.Families.FamilyWirings.{number_gives, numbers_differ, normal_has, count_zero, number_zero}
use Rattle.trees.specs.Filling.GateGroups.{filled_joins, net_joins, same_numbers, same_leaves}
use Rattle.trees.specs.Families.FamilyNets.{OneNumber, family_gates_of, how_many}

module _ (m n : ℕ) (pos : 0 < m) (several : 1 < n) (f : ℕ → ℕ) where
  leaves< : leaves_of m n f < 2 ^ n
  leaves< = leaves_below m n pos f

  -- its wiring
  abbrev wiring_of : ℕ → Wiring
  wiring_of r = wiring_numbered m n pos f (leaves_of m n f) r

  gives : (r : ℕ) → r < how_many m n pos several f → OfFamily m n pos f (leaves_of m n f) r (wiring_of r)
  unfolding tree_count
  gives r h = number_gives m n pos f (leaves_of m n f) leaves< r h

  -- the groups of its gates
  net_groups : (r : ℕ) → r < how_many m n pos several f → gate_groups n (family_gates_of m n pos several f r) ≡ groups_joined (wiring_of r)
  unfolding family_gates
  net_groups r h = filled_joins m n f (wiring_of r) (gives r h).of.0

  -- The net of each number below the count is a net, and computes the table, ..
  pub family_computes : ((p : ℕ) → p < m ^ n → f p < m) → (r : ℕ) → r < how_many m n pos several f → IsNet m n (family_gates_of m n pos several f r) × Computes m n (family_gates_of m n pos several f r) f
  unfolding family_gates
  family_computes inks r h =
      filled_computes m n pos f (leaves_of m n f) (leaves_several m n pos f several) (wiring_of r) (gives r h).of (leaves_hold m n pos f) (gives r h).few inks

  -- .. and is on just the leaves
  pub family_leaves : (r : ℕ) → r < how_many m n pos several f → UsesJust n (family_gates_of m n pos several f r) (leaves_of m n f)
  unfolding family_gates
  family_leaves r h = filled_leaves m n pos f (leaves_of m n f) (leaves_several m n pos f several) (wiring_of r) (gives r h).of

  -- Two nets that are one wiring have the same number.
  pub family_differ : (r s : ℕ) → r < how_many m n pos several f → s < how_many m n pos several f → SameWiring n (family_gates_of m n pos several f r) (family_gates_of m n pos several f s) → r ≡ s
  unfolding tree_count
  family_differ r s h k same =
      let of_r = gives r h in
      let of_s = gives s k in
      let joins : SameGates (wiring_of r) (wiring_of s) =
      subst (λ (xs : List ℕ). (g : ℕ) → Memᴰ g xs ↔ Joins g (wiring_of s)) (net_groups r h)
      (subst (λ (ys : List ℕ). (g : ℕ) → Memᴰ g (gate_groups n (family_gates_of m n pos several f r)) ↔ Memᴰ g ys) (net_groups s k)
      ((same_numbers (gate_groups n (family_gates_of m n pos several f r)) (gate_groups n (family_gates_of m n pos several f s))).0 same)) in
      numbers_differ m n pos f (leaves_of m n f) leaves< r s h k
      (normal_known n (wiring_of r) (wiring_of s) of_r.of.0 of_s.of.0 of_r.norm of_s.norm (of_r.of.1 ∙ sym of_s.of.1) joins)

  -- ---- every wiring

  -- "Every wiring that computes the table turns up under just one number": every one on just the leaves, ..
  pub every_wiring : (gates : List Gate) → IsNet m n gates → UsesJust n gates (leaves_of m n f) → Computes m n gates f → OneNumber m n pos several f gates
  unfolding tree_count
  every_wiring gates net uses has =
      let w : Wiring = net_wiring m n gates net in
      let leaves : group_of w ≡ leaves_of m n f = net_group_lem m n gates net (leaves_of m n f) leaves< uses in
      let few : EachGate (Few m n f) w = net_few m n pos f gates net has in
      let number : ℕ = number_in m n pos f (normal n w) in
      let (below, back) = normal_has m n pos f (leaves_of m n f) leaves< w ((net_tree m n gates net).once, leaves) few in
      let same : SameWiring n gates (family_gates_of m n pos several f number) =
      (same_numbers (gate_groups n gates) (gate_groups n (family_gates_of m n pos several f number))).1
      (subst⁻¹ (λ (ys : List ℕ). (g : ℕ) → Memᴰ g (gate_groups n gates) ↔ Memᴰ g ys) (net_groups number below ∙ ap groups_joined back)
      (λ g. let joins = net_joins m n gates net g in
      let on = turned_same (normal_turned n w) g in
      (λ is. on.0 (joins.0 is), λ is. joins.1 (on.1 is)))) in
      record {
        number = number;
        below = below;
        same = same;
        only = λ s h also. family_differ s number h below (λ g. sym (also g) ∙ same g);
      }

  -- .. and no other
  pub only_leaves : ((p : ℕ) → p < m ^ n → f p < m) → (gates : List Gate) → IsNet m n gates → (r : ℕ) → r < how_many m n pos several f → SameWiring n gates (family_gates_of m n pos several f r)
      → UsesJust n gates (leaves_of m n f)
  only_leaves inks gates net r h same =
      let of_family = (family_computes inks r h).0 in
      rw (same_leaves m n gates (family_gates_of m n pos several f r) net of_family same
      ∙ net_group_lem m n (family_gates_of m n pos several f r) of_family (leaves_of m n f) leaves< (family_leaves r h)) at
      (net_uses m n gates net)

  -- ---- number 0 and count 0

  -- "number 0 is the settled net"
  pub family_settled : 0 < how_many m n pos several f → family_gates_of m n pos several f 0 ≡ settled_gates m n f (marks_of m n f)
  unfolding family_gates settled_gates tree_count
  family_settled some =
      ap (λ (w : Wiring). filled m n f (links_of n 0 w))
      (number_zero m n pos f (leaves_of m n f) leaves< (counted_two n (marks_of m n f) (leaves_of m n f) leaves< some))

  -- "A table with no tree gets count 0": the count is 0 exactly if no net computes the table.
  pub no_family : ((p : ℕ) → p < m ^ n → f p < m) → (how_many m n pos several f ≡ 0) ↔ (TreeExists m n f → ⊥)
  unfolding tree_count
  no_family inks =
      let exists = tree_exists m n pos several f inks in
      let on_leaves = leaves_marked m n pos f several in
      let zero_count = count_zero m n pos f (leaves_of m n f) leaves< in (
        λ none tree. zero_count.0 none (on_leaves.1 (exists.0 tree)),
        λ no_tree_lem. zero_count.1 (λ two. no_tree_lem (exists.1 (on_leaves.0 two))),
      )
