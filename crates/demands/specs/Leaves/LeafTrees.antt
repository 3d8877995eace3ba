-- Document 02, K12: "A table is refused for want of a tree exactly when none stands on those leaves". Some tree computes the table exactly if one
-- on just the table's leaves does, and exactly if one on all inputs does, "each input at just one leaf" (demand 3). So making refuses with 16
-- exactly if there is none on the table's leaves, none on all inputs, and none at all (`make_refuses`). The same holds for every group of two or more
-- inputs with all that matter. Stated for gate lists, accepted net sheets and Section I's trees.
-- Assumes nothing.
use Rattle.std.specs.Prelude.{◌<◌, ◌≤◌, ◌^◌, ◌≡◌, ◌↔◌}
use Rattle.laws.specs.Prelude.{ℕ, suc, zero, ◌∙◌, sym, iff_trans, iff_not, true, List, arith, length}
use Rattle.rules.specs.Calls.Answers.{accepted, refused, ink_in}
use Rattle.rules.specs.Calls.OpenCells.{read_full}
use Rattle.rules.specs.Calls.Settling.{make_call}
use Rattle.rules.specs.Groups.Groups.{member, size, whole_group}
use Rattle.rules.specs.Groups.Marks.{marks_of, marks_length}
use Rattle.rules.specs.Nets.Filling.{filled}
use Rattle.rules.specs.Nets.Leaves.{matters}
use Rattle.rules.specs.Nets.Settled.{settled_wiring}
use Rattle.rules.specs.Nets.Trees.{Tree, wiring_in, Computes, UsesJust}
use Rattle.rules.specs.Nets.Wirings.{group_of, links_of}
use Rattle.rules.specs.Sheets.Printed.{printed_net}
use Rattle.rules.specs.Sheets.Reading.{read_net, table_of_net}
use Rattle.rules.specs.Sheets.SheetRules.{IsNet}
use Rattle.rules.specs.Sheets.Sheets.{Gate, Net, Table}
use Rattle.trees.specs.Groups.Members.{whole_below, member_whole, member_ext, size_whole, size_zero}
use Rattle.trees.specs.Trees.Wirings.{group_below}
use Rattle.trees.specs.Trees.MarkTwo.{settled_wiring_of}
use Rattle.trees.specs.Leaves.LeafGroup.{leaves_below, leaves_hold, leaves_several}
use Rattle.trees.proofs.Leaves.CutWirings.{holding_marked}
use Rattle.trees.proofs.Trees.Existence.{filled_computes, filled_leaves}
use Rattle.trees.specs.Trees.TreeExistence.{net_is_gate_tree}
use Rattle.trees.proofs.Trees.TreeExistence.{tree_is_net}
use Rattle.demands.specs.Sheets.FullSheets.{FullTableRules, full_facts, full_accepted}
use Rattle.demands.specs.Settling.Makes.{table_letters, leaves_of_table, HasTree, two_tree, net_with, gates_sheet, sheet_gates, make_refuses}
use Rattle.demands.specs.Settling.TreeClause.{TreeFor, TreeAgrees, agrees_all}

-- some gate list that uses just the inputs of group g, whatever its wiring and digits, is a net with the table's levels and inputs and has its inks
abbrev pub HasTreeOn : Table → ℕ → Type 0
HasTreeOn t g =
    (gates : List Gate) × IsNet t.header.levels t.header.inputs gates × Computes t.header.levels t.header.inputs gates (ink_in t.inks)
    × UsesJust t.header.inputs gates g

-- some accepted net sheet with the table's levels and names that uses just these has its inks
abbrev pub HasSheetOn : Table → ℕ → Type 0
HasSheetOn t g = (r : List ℕ) × (net : Net) × (read_net r ≡ accepted net) × (table_of_net net ≡ t) × UsesJust t.header.inputs net.gates g

-- some tree with just these leaves, whatever its wiring and digits, computes the table
abbrev pub ComputedByTreeOn : Table → ℕ → Type 0
ComputedByTreeOn t g = (tree : Tree) × TreeFor t tree × TreeAgrees tree t × (group_of (wiring_in tree) ≡ g)

-- two or more of the table's inputs, with every one that matters
pub record MayBeLeaves (t : Table) (g : ℕ) : Type 0 where
  pub below : g < 2 ^ t.header.inputs
  pub several : 1 < size t.header.inputs g
  pub mattering : (i : ℕ) → i < t.header.inputs → matters t.header.levels t.header.inputs (ink_in t.inks) i ≡ true → member i g ≡ true

-- a group with a member is not empty
some_member : (n g : ℕ) → 0 < size n g → 0 < g
some_member n zero h = absurd (omega (arith, size_zero n))
some_member n (suc g) h = omega arith

module _ (t : Table) (kept : FullTableRules t) where
  open table_letters t use {m, n, f}
  open full_facts t kept use {pos, several, inks_below}

  -- the leaves of the settled tree are such a group, ..
  pub leaves_may : MayBeLeaves t (leaves_of_table t)
  leaves_may = record { below = leaves_below m n pos f; several = leaves_several m n pos f several; mattering = leaves_hold m n pos f }

  -- .. and so are all inputs
  pub whole_may : MayBeLeaves t (whole_group n)
  whole_may = record { below = whole_below n; several = rw (size_whole n) several; mattering = λ i i< _. member_whole i n i< }

  module _ (g : ℕ) (may : MayBeLeaves t g) where
    -- a net on any leaves, and one on just these: the group has mark 2 if all inputs together do
    pub tree_on : HasTree t ↔ HasTreeOn t g
    tree_on = (
      λ tree.
          let two = (holding_marked m n pos f g (some_member n g (omega (arith, may.several))) may.below may.mattering).1 ((two_tree t kept).0 tree) in
          let w = settled_wiring n (marks_of m n f) g in
          let (of, few) = settled_wiring_of m n pos f g may.below two in
          let (net, has) = filled_computes m n pos f g may.several w of may.mattering few inks_below in
          (filled m n f (links_of n 0 w), net, has, filled_leaves m n pos f g may.several w of),
      λ on. (on.0, on.1, on.2),
    )

    -- the same as a sheet, ..
    pub sheet_on : HasTreeOn t g ↔ HasSheetOn t g
    sheet_on = (
      λ (gates, net, has, uses). let (reads, table) = gates_sheet t kept gates net has in (printed_net (net_with t gates), net_with t gates, reads, table, uses),
      λ (r, net, reads, table, uses). let (is, has) = sheet_gates t r net reads table in (net.gates, is, has, uses),
    )

    -- .. and as one of Section I's trees
    pub tree_value_on : HasTreeOn t g ↔ ComputedByTreeOn t g
    tree_value_on = (
      λ (gates, net, has, uses).
          let (tree, is, values, own) = net_is_gate_tree m n gates net in
          let leaves : group_of (wiring_in tree) ≡ g =
          member_ext n (group_of (wiring_in tree)) g (group_below n (wiring_in tree) is.once) may.below (λ i i<. sym (own i i<) ∙ uses i i<) in
          (tree, is, (agrees_all t kept.header tree is).0 (λ p h. sym (values p) ∙ has p h), leaves),
      λ (tree, is, agrees, leaves).
          let (gates, net, values, uses) = tree_is_net m n tree is in
          (gates, net, (λ p h. values p ∙ (agrees_all t kept.header tree is).1 agrees p h), rw leaves at uses),
    )

-- ---- making, for a full table

module _ (s : List ℕ) (t : Table) (reads : read_full s ≡ accepted t) (cells marks output : List ℕ)
    (cells_fit : t.header.levels ^ t.header.inputs ≤ length cells) (marks_fit : marks_length t.header.inputs ≤ length marks) where
  -- making refuses the table with 16
  abbrev pub Refuses16 : Type 0
  Refuses16 = (place : ℕ) × ((make_call s cells marks output).answer ≡ refused 16 place)

  kept_t : FullTableRules t
  kept_t = (full_accepted s t reads).1

  -- exactly if no net is on just these, ..
  module _ (g : ℕ) (may : MayBeLeaves t g) where
    pub make_refuses_on : Refuses16 ↔ (HasTreeOn t g → ⊥)
    make_refuses_on = iff_trans (make_refuses s t reads cells marks output cells_fit marks_fit) (iff_not (tree_on t kept_t g may))

    -- .. no accepted net sheet, ..
    pub make_refuses_sheets_on : Refuses16 ↔ (HasSheetOn t g → ⊥)
    make_refuses_sheets_on = iff_trans make_refuses_on (iff_not (sheet_on t kept_t g may))

    -- .. and no tree
    pub make_refuses_trees_on : Refuses16 ↔ (ComputedByTreeOn t g → ⊥)
    make_refuses_trees_on = iff_trans make_refuses_on (iff_not (tree_value_on t kept_t g may))

  -- "A table is refused for want of a tree exactly when none stands on those leaves": no net whatever its wiring and its tables, ..
  pub make_refuses_leaves : Refuses16 ↔ (HasTreeOn t (leaves_of_table t) → ⊥)
  make_refuses_leaves = make_refuses_on (leaves_of_table t) (leaves_may t kept_t)

  -- .. no accepted net sheet of those levels and names, ..
  pub make_refuses_leaf_sheets : Refuses16 ↔ (HasSheetOn t (leaves_of_table t) → ⊥)
  make_refuses_leaf_sheets = make_refuses_sheets_on (leaves_of_table t) (leaves_may t kept_t)

  -- .. none of Section I's trees
  pub make_refuses_leaf_trees : Refuses16 ↔ (ComputedByTreeOn t (leaves_of_table t) → ⊥)
  make_refuses_leaf_trees = make_refuses_trees_on (leaves_of_table t) (leaves_may t kept_t)

  -- Demand 3: "no fanout-free tree of two-input gates, each input at just one leaf, computes it, whatever the tree's wiring and gate tables", as nets ..
  pub make_refuses_whole : Refuses16 ↔ (HasTreeOn t (whole_group t.header.inputs) → ⊥)
  make_refuses_whole = make_refuses_on (whole_group t.header.inputs) (whole_may t kept_t)

  -- .. and as Section I's trees
  pub make_refuses_whole_trees : Refuses16 ↔ (ComputedByTreeOn t (whole_group t.header.inputs) → ⊥)
  make_refuses_whole_trees = make_refuses_trees_on (whole_group t.header.inputs) (whole_may t kept_t)
