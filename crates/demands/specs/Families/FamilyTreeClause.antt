-- The sheets of a family, for Section I's trees themselves: "Nets that differ only in which side is left, in gate numbers or in gate tables are one
-- wiring. Every wiring that computes the table turns up under just one number". Every tree on just the table's leaves that computes it, whatever its
-- digits, differs only in which side is left from the tree that the call for exactly one number writes; no tree on other leaves does.
-- Assumes nothing.
use Rattle.std.specs.Prelude.{◌+◌, ◌-◌, ◌≡◌, ◌↔◌}
use Rattle.laws.specs.Prelude.{ℕ, ◌∙◌, sym, ap, subst, List, arith, length}
use Rattle.rules.specs.Calls.Answers.{accepted, ink_in}
use Rattle.rules.specs.Calls.FamilyCalls.{family_net, family_tree_call}
use Rattle.rules.specs.Calls.OpenCells.{read_full}
use Rattle.rules.specs.Nets.Family.{SameWiring}
use Rattle.rules.specs.Nets.Trees.{Tree, leaf, node, wiring_in, tree_value, Turned, UsesJust, GateTree}
use Rattle.rules.specs.Nets.Value.{value}
use Rattle.rules.specs.Nets.Wirings.{group_of, gates_in}
use Rattle.rules.specs.Sheets.Reading.{read_net}
use Rattle.rules.specs.Sheets.SheetRules.{IsNet}
use Rattle.rules.specs.Sheets.Sheets.{Gate, Net, Table}
use Rattle.laws.specs.Calls.Answers.{accepted_inj}
use Rattle.trees.specs.Trees.Forest.{tree_at, with_trees, input_trees}
use Rattle.trees.specs.Trees.NetTree.{net_tree, net_group_lem}
use Rattle.trees.specs.Trees.NetTables.{levels_pos}
use Rattle.trees.specs.Leaves.LeafGroup.{leaves_below}
use Rattle.trees.specs.Trees.TreeLists.{tree_gates, lines_use, tree_net}
use Rattle.trees.proofs.Trees.TreeLists.{tree_net_value}
use Rattle.trees.proofs.Trees.LinesTree.{lines_tree}
use Rattle.trees.specs.Families.NormalWirings.{turned_group}
use Rattle.trees.proofs.Filling.GateGroups.{same_wiring}
use Rattle.demands.specs.Settling.Settles.{sheet_of}
use Rattle.demands.specs.Settling.Makes.{leaves_of_table}
use Rattle.demands.specs.Settling.TreeClause.{TreeFor, TreeAgrees, agrees_all}
use Rattle.demands.specs.Families.FamilyTables.{family_kept, family_on_leaves}
use Rattle.demands.specs.Families.FamilySheets.{OneWiring, tree_written, tree_sheet, one_wiring, UnderOneNumber, every_gates}
use Rattle.demands.specs.Sheets.FullSheets.{FullTableRules, full_accepted}

-- the tree of a gate list: that of its last gate
abbrev pub last_tree : ℕ → List Gate → Tree
last_tree n gates = tree_at (with_trees (input_trees n) gates) (n + length gates - 1)

-- a sheet that is accepted as a net whose tree differs from this one "only in which side is left", whatever the digits
pub record TurnedSheet (tree : Tree) (sheet : List ℕ) : Type 0 where
  pub net : Net
  pub reads : read_net sheet ≡ accepted net
  pub turned : Turned (wiring_in tree) (wiring_in (last_tree net.header.inputs net.gates))

module _ (m n : ℕ) where
  -- two nets are one wiring exactly if their trees differ only in which side is left
  pub same_trees : (gates others : List Gate) → IsNet m n gates → IsNet m n others
      → SameWiring n gates others ↔ Turned (wiring_in (last_tree n gates)) (wiring_in (last_tree n others))
  same_trees gates others net net' =
      rw (← (net_tree m n gates net).last, ← (net_tree m n others net').last) (same_wiring m n gates others net net')

  -- a tree with a gate is the tree of its own lines
  own_lines : (tree : Tree) → GateTree m n tree
      → (gates : List Gate) × IsNet m n gates × ((p : ℕ) → value m n gates p ≡ tree_value m n tree p) × UsesJust n gates (group_of (wiring_in tree))
      × (last_tree n gates ≡ tree)
  unfolding gates_in
  own_lines (leaf i) is = absurd (omega (arith, is.gates))
  own_lines (node digits a b) is = (
    tree_gates n 0 (node digits a b),
    tree_net n m (node digits a b) is.once is.gates is.filled,
    tree_net_value n m digits a b is.once,
    lines_use n (node digits a b) is.once is.gates,
    lines_tree n digits a b is.once,
  )

module _ (s : List ℕ) (t : Table) (reads : read_full s ≡ accepted t) where
  kept : FullTableRules t
  kept = (full_accepted s t reads).1

  -- a written sheet is one wiring with some gates exactly if the trees differ only in which side is left
  shows_tree : (gates : List Gate) → IsNet t.header.levels t.header.inputs gates → (r : ℕ) (cells marks output sheet : List ℕ)
      → sheet_of (family_tree_call s r cells marks output) ≡ accepted sheet
      → OneWiring t.header.inputs gates sheet ↔ TurnedSheet (last_tree t.header.inputs gates) sheet
  unfolding family_net
  shows_tree gates net r cells marks output sheet e =
      let below = (tree_written s t reads r cells marks output sheet e).0 in
      let reads_sheet = (tree_sheet s t reads r cells marks output sheet e).0 in
      let same = same_trees t.header.levels t.header.inputs gates (family_net r t).gates net (family_kept t kept r below).gates in (
        λ one. record { net = family_net r t; reads = reads_sheet; turned = same.0 (one_wiring s t reads r cells marks output sheet e gates one) },
        λ is. record {
          net = family_net r t;
          reads = reads_sheet;
          same =
              same.1
              (subst (λ (net : Net). Turned (wiring_in (last_tree t.header.inputs gates)) (wiring_in (last_tree net.header.inputs net.gates)))
              (accepted_inj is.net (family_net r t) (sym is.reads ∙ reads_sheet)) is.turned);
        },
      )

  -- "Every wiring that computes the table turns up under just one number": every one of Section I's trees on just the leaves, whatever its digits, ..
  pub every_tree : (tree : Tree) → TreeFor t tree → group_of (wiring_in tree) ≡ leaves_of_table t → TreeAgrees tree t → UnderOneNumber s t reads (TurnedSheet tree)
  every_tree tree is leaves agrees =
      let (gates, net, values, uses, own) = own_lines t.header.levels t.header.inputs tree is in
      let has = (agrees_all t kept.header tree is).1 agrees in
      let one = every_gates s t reads gates net (rw leaves at uses) (λ p h. values p ∙ has p h) in
      let shows : (r : ℕ) (cells marks output sheet : List ℕ) → sheet_of (family_tree_call s r cells marks output) ≡ accepted sheet
      → OneWiring t.header.inputs gates sheet ↔ TurnedSheet tree sheet = rw own at (shows_tree gates net) in
      record {
        number = one.number;
        below = one.below;
        turns_up = λ cells marks output long.
            let (sheet, written, of) = one.turns_up cells marks output long in
            (sheet, written, (shows one.number cells marks output sheet written).0 of);
        only = λ r cells marks output sheet e of. one.only r cells marks output sheet e ((shows r cells marks output sheet e).1 of);
      }

  -- .. and no tree on other leaves
  pub just_leaf_trees : (r : ℕ) (cells marks output sheet : List ℕ) → sheet_of (family_tree_call s r cells marks output) ≡ accepted sheet
      → (tree : Tree) → TurnedSheet tree sheet → group_of (wiring_in tree) ≡ leaves_of_table t
  unfolding family_net
  just_leaf_trees r cells marks output sheet e tree is =
      let below = (tree_written s t reads r cells marks output sheet e).0 in
      let same : is.net ≡ family_net r t = accepted_inj is.net (family_net r t) (sym is.reads ∙ (tree_sheet s t reads r cells marks output sheet e).0) in
      let own = (family_kept t kept r below).gates in
      turned_group is.turned
      ∙ ap (λ (net : Net). group_of (wiring_in (last_tree net.header.inputs net.gates))) same
      ∙ ap (λ (u : Tree). group_of (wiring_in u)) (sym (net_tree t.header.levels t.header.inputs (family_net r t).gates own).last)
      ∙ net_group_lem t.header.levels t.header.inputs (family_net r t).gates own (leaves_of_table t)
      (leaves_below t.header.levels t.header.inputs (levels_pos t.header.levels kept.header.levels) (ink_in t.inks))
      (family_on_leaves t kept r below)
