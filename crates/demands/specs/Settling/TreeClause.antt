-- The demands for Section I's trees themselves, at assignments. Demand 2: "The table of a net is Section I's value on every assignment".
-- Demand 3: "making refuses the table as having no tree exactly when no fanout-free tree of two-input gates .. computes it, whatever the
-- tree's wiring and gate tables", and whatever its leaves: "inputs may stay unused" (document 02, K12). `LeafTrees` says which leaves are possible.
-- Assumes nothing.
use Rattle.std.specs.Prelude.{◌<◌, ◌≤◌, ◌^◌, ◌≡◌, ◌↔◌}
use Rattle.laws.specs.Prelude.{ℕ, ◌∙◌, sym, iff_trans, iff_not, iff_symm, List, length}
use Rattle.rules.specs.Calls.Answers.{accepted, refused, ink_in}
use Rattle.rules.specs.Calls.OpenCells.{read_full}
use Rattle.rules.specs.Calls.Settling.{make_call}
use Rattle.rules.specs.Groups.Marks.{marks_length}
use Rattle.rules.specs.Nets.Trees.{Tree, tree_value, GateTree, SomeTree}
use Rattle.rules.specs.Sheets.Reading.{read_net, table_of_net}
use Rattle.rules.specs.Sheets.SheetRules.{HeaderRules}
use Rattle.rules.specs.Sheets.Sheets.{Net, Table}
use Rattle.laws.specs.Numbers.Assignments.{each_assignment}
use Rattle.trees.specs.Trees.Uniqueness.{table_at}
use Rattle.trees.specs.Trees.TreeExistence.{tree_value_at, tree_at_levels, net_is_gate_tree}
use Rattle.trees.proofs.Trees.TreeExistence.{trees_are_nets}
use Rattle.readback.specs.Sheets.ReadBack.{net_accepted}
use Rattle.trees.specs.Trees.NetTables.{levels_pos}
use Rattle.demands.specs.Settling.Makes.{make_refuses}
use Rattle.demands.specs.Settling.Assignments.{LevelsGiven, ink_at}
use Rattle.demands.specs.Sheets.FullSheets.{full_accepted}

-- a tree with a gate, with the table's levels, over some of its inputs, none of them at two leaves
abbrev pub TreeFor : Table → Tree → Type 0
TreeFor t tree = GateTree t.header.levels t.header.inputs tree

-- the tree's value is the table's ink at every assignment
abbrev pub TreeAgrees : Tree → Table → Type 0
TreeAgrees tree t = (ls : List ℕ) → LevelsGiven t.header ls → tree_value_at t.header.levels tree ls ≡ ink_at t ls

-- this holds at every index exactly if it holds at every assignment
pub agrees_all : (t : Table) → HeaderRules t.header → (tree : Tree) → TreeFor t tree
    → ((p : ℕ) → p < t.header.levels ^ t.header.inputs → tree_value t.header.levels t.header.inputs tree p ≡ ink_in t.inks p) ↔ TreeAgrees tree t
unfolding ink_at
agrees_all t kept tree is =
    let at = tree_at_levels t.header.levels t.header.inputs tree is.once in
    iff_trans (λ has p h. at p ∙ has p h, λ has p h. sym (at p) ∙ has p h)
    (each_assignment t.header.levels t.header.inputs (levels_pos t.header.levels kept.levels)
    (λ ls p. tree_value_at t.header.levels tree ls ≡ ink_in t.inks p))

-- some tree, whatever its leaves, its wiring and its digits, computes the table
abbrev pub ComputedByTree : Table → Type 0
ComputedByTree t = (tree : Tree) × TreeFor t tree × TreeAgrees tree t

-- Demand 2: an accepted net is a tree whose value at every assignment is the ink of the net's table.
pub table_is_tree_value : (s : List ℕ) (net : Net) → read_net s ≡ accepted net → ComputedByTree (table_of_net net)
unfolding table_of_net
table_is_tree_value s net reads =
    let kept = (net_accepted s net reads).1 in
    let tree = net_is_gate_tree net.header.levels net.header.inputs net.gates kept.gates in (
      tree.0,
      tree.1,
      (agrees_all (table_of_net net) kept.header tree.0 tree.1).0
          (λ p h. sym (tree.2 p) ∙ sym (table_at net.header.levels net.header.inputs net.gates p h)),
    )

-- Demand 3, for a full table: making refuses with 16 exactly if no such tree computes it.
pub make_refuses_trees : (s : List ℕ) (t : Table) → read_full s ≡ accepted t
    → (cells marks output : List ℕ) → t.header.levels ^ t.header.inputs ≤ length cells → marks_length t.header.inputs ≤ length marks
    → ((place : ℕ) × ((make_call s cells marks output).answer ≡ refused 16 place)) ↔ (ComputedByTree t → ⊥)
make_refuses_trees s t reads cells marks output cells_fit marks_fit =
    iff_trans (make_refuses s t reads cells marks output cells_fit marks_fit)
    (iff_not (iff_trans (iff_symm (trees_are_nets t.header.levels t.header.inputs (ink_in t.inks))) at_all))
  where
    at_all : SomeTree t.header.levels t.header.inputs (ink_in t.inks) ↔ ComputedByTree t
    at_all = (
      λ some. (some.0, some.1, (agrees_all t (full_accepted s t reads).1.header some.0 some.1).0 some.2),
      λ some. (some.0, some.1, (agrees_all t (full_accepted s t reads).1.header some.0 some.1).1 some.2),
    )
