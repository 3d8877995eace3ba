-- Document 02, K3, the rules by which the sheets of a family are chosen and ordered: "A split is counted once, with the first-listed input on the
-- left. The order is by A's number, then A's tree, then B's. Gate tables follow the settled net's rule.", and all "on just these" leaves (K12).
-- Stated for what is written, without counts.
-- Assumes nothing.
use Rattle.std.specs.Prelude.{◌<◌, ◌^◌, ◌≡◌}
use Rattle.laws.specs.Prelude.{ℕ, ◌∙◌, sym, ap, refl, subst, subst₂, true, false, List, arith}
use Rattle.rules.specs.Calls.Answers.{accepted, ink_in}
use Rattle.rules.specs.Calls.FamilyCalls.{count_of_table, family_net, family_tree_call}
use Rattle.rules.specs.Calls.OpenCells.{read_full}
use Rattle.rules.specs.Groups.Groups.{size}
use Rattle.rules.specs.Nets.Family.{tree_count, family_gates}
use Rattle.rules.specs.Nets.Filling.{filled}
use Rattle.rules.specs.Nets.Trees.{wiring_in, UsesJust}
use Rattle.rules.specs.Nets.Wirings.{Wiring, input, gate, group_of, links_of}
use Rattle.rules.specs.Sheets.Reading.{read_net}
use Rattle.rules.specs.Sheets.Sheets.{Gate, Net, Table}
use Rattle.laws.specs.Calls.Answers.{accepted_inj}
use Rattle.laws.specs.Calls.Settling.{marks_of_table}
use Rattle.trees.specs.Trees.Trees.{WiringOf, fill}
use Rattle.trees.specs.Groups.Members.{size_single, size_le}
use Rattle.trees.specs.Leaves.LeafGroup.{leaves_below, leaves_several}
use Rattle.trees.specs.Trees.NetTables.{levels_pos, inputs_several}
use Rattle.trees.specs.Trees.GateLists.{fill_wiring}
use Rattle.trees.proofs.Trees.LinesTree.{lines_tree, filled_lines}
use Rattle.trees.specs.Families.NormalWirings.{Normal}
use Rattle.trees.specs.Families.FamilyWirings.{wiring_numbered, OfFamily}
use Rattle.trees.proofs.Families.FamilyWirings.{number_gives}
use Rattle.demands.specs.Settling.Settles.{sheet_of}
use Rattle.demands.specs.Settling.Makes.{leaves_of_table}
use Rattle.demands.specs.Families.FamilyTables.{family_on_leaves}
use Rattle.demands.specs.Families.FamilySheets.{tree_written, tree_sheet}
use Rattle.demands.specs.Families.FamilyTreeClause.{last_tree}
use Rattle.demands.specs.Families.FamilyOrder.{Earlier, in_order}
use Rattle.demands.specs.Sheets.FullSheets.{FullTableRules, full_accepted}

-- filling the links of a wiring of two or more inputs gives that wiring back
filled_wiring : (m n : ℕ) (f : ℕ → ℕ) (g : ℕ) → 1 < size n g → (w : Wiring) → WiringOf n g w → wiring_in (last_tree n (filled m n f (links_of n 0 w))) ≡ w
unfolding group_of fill
filled_wiring m n f g several (input i) of = absurd (omega (arith, size_single i n of.0, ap (size n) of.1))
filled_wiring m n f g several (gate a b) of =
    ap (λ (gates : List Gate). wiring_in (last_tree n gates)) (filled_lines m n f (gate a b) of.0)
    ∙ ap wiring_in (lines_tree n _ (fill m n f false a) (fill m n f false b) (rw (fill_wiring m n f false a, fill_wiring m n f false b) of.0))
    ∙ fill_wiring m n f true (gate a b)

-- the wiring of a net: that of its tree
abbrev pub wiring_of_net : Net → Wiring
wiring_of_net net = wiring_in (last_tree net.header.inputs net.gates)

-- properties of a net in a table's family
pub record FamilyMember (t : Table) (net : Net) : Type 0 where
  -- it has the table's levels, inputs and names
  pub header : net.header ≡ t.header
  -- it is on just the table's leaves
  pub leaves : UsesJust t.header.inputs net.gates (leaves_of_table t)
  -- "with the first-listed input on the left", at each gate
  pub first_left : Normal t.header.inputs (wiring_of_net net)
  -- "Gate tables follow the settled net's rule", and the gate lines its order: A's, then B's, then the group's own
  pub by_rule_lem : net.gates ≡ filled t.header.levels t.header.inputs (ink_in t.inks) (links_of t.header.inputs 0 (wiring_of_net net))

module _ (t : Table) (kept : FullTableRules t) where
  pos : 0 < t.header.levels
  pos = levels_pos t.header.levels kept.header.levels

  several : 1 < size t.header.inputs (leaves_of_table t)
  several = leaves_several t.header.levels t.header.inputs pos (ink_in t.inks) (inputs_several t.header.inputs kept.header.inputs)

  leaves< : leaves_of_table t < 2 ^ t.header.inputs
  leaves< = leaves_below t.header.levels t.header.inputs pos (ink_in t.inks)

  -- the wiring of a number
  abbrev number_wiring : ℕ → Wiring
  number_wiring r = wiring_numbered t.header.levels t.header.inputs pos (ink_in t.inks) (leaves_of_table t) r

  gives : (r : ℕ) → r < count_of_table t → OfFamily t.header.levels t.header.inputs pos (ink_in t.inks) (leaves_of_table t) r (number_wiring r)
  unfolding count_of_table tree_count
  gives r h = number_gives t.header.levels t.header.inputs pos (ink_in t.inks) (leaves_of_table t) leaves< r h

  -- it is the wiring of its net
  net_wiring_lem : (r : ℕ) → r < count_of_table t → wiring_of_net (family_net r t) ≡ number_wiring r
  unfolding family_net family_gates
  net_wiring_lem r h = filled_wiring t.header.levels t.header.inputs (ink_in t.inks) (leaves_of_table t) several (number_wiring r) (gives r h).of

  net_in_family : (r : ℕ) → r < count_of_table t → FamilyMember t (family_net r t)
  unfolding family_net family_gates
  net_in_family r h = record {
    header = refl;
    leaves = family_on_leaves t kept r h;
    first_left = rw (net_wiring_lem r h) (gives r h).norm;
    by_rule_lem = rw (net_wiring_lem r h) refl;
  }

  nets_in_order : (a b : ℕ) → a < b → b < count_of_table t → Earlier (wiring_of_net (family_net a t)) (wiring_of_net (family_net b t))
  unfolding count_of_table tree_count
  nets_in_order a b less h =
      rw (net_wiring_lem a (omega arith), net_wiring_lem b h)
      (in_order t.header.inputs (marks_of_table t) t.header.inputs (leaves_of_table t) a b leaves<
      (size_le t.header.inputs (leaves_of_table t)) less h)

module _ (s : List ℕ) (t : Table) (reads : read_full s ≡ accepted t) where
  kept_table : FullTableRules t
  kept_table = (full_accepted s t reads).1

  -- the net of a written sheet
  the_net : (r : ℕ) (cells marks output sheet : List ℕ) → sheet_of (family_tree_call s r cells marks output) ≡ accepted sheet
      → (net : Net) → read_net sheet ≡ accepted net → family_net r t ≡ net
  the_net r cells marks output sheet e net reads_net = accepted_inj (family_net r t) net (sym (tree_sheet s t reads r cells marks output sheet e).0 ∙ reads_net)

  -- The sheet that the call for a number writes has the first-listed input on the left and the settled net's gate tables.
  pub written_by_rule : (r : ℕ) (cells marks output sheet : List ℕ) → sheet_of (family_tree_call s r cells marks output) ≡ accepted sheet
      → (net : Net) → read_net sheet ≡ accepted net → FamilyMember t net
  written_by_rule r cells marks output sheet e net reads_net =
      subst (FamilyMember t) (the_net r cells marks output sheet e net reads_net)
      (net_in_family t kept_table r (tree_written s t reads r cells marks output sheet e).0)

  -- "The order is by A's number, then A's tree, then B's."
  pub written_in_order : (a b : ℕ) → a < b → (cells marks output cells' marks' output' sheet sheet' : List ℕ)
      → sheet_of (family_tree_call s a cells marks output) ≡ accepted sheet → sheet_of (family_tree_call s b cells' marks' output') ≡ accepted sheet'
      → (net other : Net) → read_net sheet ≡ accepted net → read_net sheet' ≡ accepted other → Earlier (wiring_of_net net) (wiring_of_net other)
  written_in_order a b less cells marks output cells' marks' output' sheet sheet' e d net other reads_net reads_other =
      subst₂ (λ (x y : Net). Earlier (wiring_of_net x) (wiring_of_net y)) (the_net a cells marks output sheet e net reads_net)
      (the_net b cells' marks' output' sheet' d other reads_other)
      (nets_in_order t kept_table a b less (tree_written s t reads b cells' marks' output' sheet' d).0)
