-- Document 02, K12: "Panel makers now charge extra for a gate that ignores an input. .. A settled tree now has just the inputs that matter as leaves;
-- if fewer than two do, the first-listed others make up two. .. The families, shallow trees and the finishing of jobs use the same leaves". For every
-- sheet that a call writes from a table, whatever the buffers: which inputs it uses, that every leaf matters if two or more inputs do, that it has
-- no more gates than its leaves need, and that nothing with that table has fewer gates.
-- Assumes nothing.
use Rattle.std.specs.Prelude.{◌<◌, ◌≤◌, ◌≡◌}
use Rattle.laws.specs.Prelude.{ℕ, suc, max, ◌∙◌, sym, ap, subst, by_cases, true, false, List, lt_of_not-le, dec_le, arith, eqb, length}
use Rattle.rules.specs.Calls.Answers.{Answer, accepted, ink_in}
use Rattle.rules.specs.Calls.FamilyCalls.{family_net, family_tree_call}
use Rattle.rules.specs.Calls.OpenCells.{read_full}
use Rattle.rules.specs.Calls.Settling.{settled_net, made_into, settle_call, make_call}
use Rattle.rules.specs.Calls.ShallowSettling.{shallow_net, layered_into, settle_shallow_call, make_shallow_call}
use Rattle.rules.specs.Groups.Groups.{size}
use Rattle.rules.specs.Lists.{any}
use Rattle.rules.specs.Nets.Leaves.{matters, mattering}
use Rattle.rules.specs.Nets.Trees.{Tree, wiring_in, Computes, UsesJust}
use Rattle.rules.specs.Nets.Wirings.{gates_in}
use Rattle.rules.specs.Sheets.Reading.{read_net, table_of_net}
use Rattle.rules.specs.Sheets.SheetRules.{IsNet, NetRules}
use Rattle.rules.specs.Sheets.Sheets.{Gate, Net, Table, used_by}
use Rattle.rules.specs.Calls.Jobs.{Finished, Move, after_moves, open_job, finish_job}
use Rattle.laws.specs.Calls.Answers.{accepted_inj, not_refused}
use Rattle.laws.specs.Calls.Settling.{WholeTwo, settle_accepted, make_accepted}
use Rattle.laws.specs.Calls.ShallowSettling.{plain_into, settle_shallow_accepted, make_shallow_accepted}
use Rattle.readback.specs.Sheets.ReadBack.{net_accepted, net_read_back}
use Rattle.trees.specs.Trees.NetTree.{net_group_lem, net_uses}
use Rattle.trees.specs.Trees.UsedOnce.{net_size}
use Rattle.trees.specs.Leaves.LeafGroup.{leaves_below, leaves_matter}
use Rattle.trees.specs.Trees.Existence.{net_holds}
use Rattle.trees.proofs.Trees.Existence.{settled_leaves}
use Rattle.trees.proofs.Leaves.FewestGates.{net_gates_least, tree_gates_least}
use Rattle.trees.proofs.Shallow.ShallowNet.{shallow_leaves}
use Rattle.trees.proofs.Shallow.ShallowTables.{shallow_kept}
use Rattle.trees.specs.Trees.Uniqueness.{table_at}
use Rattle.trees.specs.Trees.NetTables.{levels_pos}
use Rattle.demands.specs.Settling.Settles.{sheet_in, sheet_of}
use Rattle.demands.specs.Sheets.FullSheets.{FullTableRules, full_facts, full_keeps, net_kept, full_accepted}
use Rattle.demands.specs.Settling.Makes.{table_letters, leaves_of_table, made_kept, sheet_gates, into_accepted}
use Rattle.demands.specs.Settling.TreeClause.{TreeFor, TreeAgrees, agrees_all}
use Rattle.demands.specs.Leaves.LeafInputs.{leaf_count, leaf_first}
use Rattle.demands.specs.Shallow.ShallowSettles.{shallow_sheet_of}
use Rattle.demands.specs.Jobs.JobMoves.{steps_in}
use Rattle.demands.specs.Jobs.Jobs.{groups, finishes, finish_22}
use Rattle.demands.specs.Families.FamilyTables.{family_kept}
use Rattle.demands.specs.Families.FamilySheets.{tree_written, tree_sheet, tree_on_leaves}

-- ---- nets on just a table's leaves

-- What it means for a net to be on just a table's leaves.
pub record OnLeaves (t : Table) (net : Net) : Type 0 where
  -- "just the inputs that matter as leaves; if fewer than two do, the first-listed others make up two"
  pub leaves : UsesJust t.header.inputs net.gates (leaves_of_table t)
  -- so an input is used exactly if it matters, when two or more do
  pub each_matters : 1 < length (mattering t.header.levels t.header.inputs (ink_in t.inks)) → (i : ℕ) → i < t.header.inputs
      → any (eqb i) (used_by net.gates) ≡ matters t.header.levels t.header.inputs (ink_in t.inks) i
  -- "the first-listed others": one that does not matter is used only if all inputs before it are
  pub first_listed : (i j : ℕ) → i < j → j < t.header.inputs → matters t.header.levels t.header.inputs (ink_in t.inks) j ≡ false
      → any (eqb j) (used_by net.gates) ≡ true → any (eqb i) (used_by net.gates) ≡ true
  -- no more gates than the leaves need: one fewer than leaves, and there are as many leaves as inputs that matter, but at least two
  pub gates : suc (length net.gates) ≡ max 2 (length (mattering t.header.levels t.header.inputs (ink_in t.inks)))
  -- and no net that computes the table, whatever its leaves, its wiring and its tables, has fewer gates: no gate list, ..
  pub fewest : (gates : List Gate) → IsNet t.header.levels t.header.inputs gates
      → Computes t.header.levels t.header.inputs gates (ink_in t.inks) → length net.gates ≤ length gates
  -- .. no accepted net sheet, ..
  pub fewest_sheets : (r : List ℕ) (other : Net) → read_net r ≡ accepted other → table_of_net other ≡ t → length net.gates ≤ length other.gates
  -- .. and none of Section I's trees
  pub fewest_trees : (tree : Tree) → TreeFor t tree → TreeAgrees tree t → length net.gates ≤ gates_in (wiring_in tree)

module _ (t : Table) (kept : FullTableRules t) where
  open table_letters t use {m, n, f}
  open full_facts t kept use {pos, several}

  -- a net that uses just these has all these properties
  on_leaves : (net : Net) → IsNet m n net.gates → UsesJust n net.gates (leaves_of_table t) → OnLeaves t net
  on_leaves net is uses =
      let count : suc (length net.gates) ≡ size n (leaves_of_table t) =
      sym (net_size m n net.gates is) ∙ ap (size n) (net_group_lem m n net.gates is (leaves_of_table t) (leaves_below m n pos f) uses) in
      let least : (gates : List Gate) → IsNet m n gates → Computes m n gates f → length net.gates ≤ length gates =
      λ gates is_net has. omega (arith, net_gates_least m n pos several f gates is_net has) in
      record {
        leaves = uses;
        each_matters = λ enough i i<. uses i i< ∙ leaves_matter m n pos f enough i i<;
        first_listed = λ i j less j< idle is. uses i (omega arith) ∙ leaf_first t (full_keeps t kept) i j less j< idle (sym (uses j j<) ∙ is);
        gates = count ∙ leaf_count t (full_keeps t kept);
        fewest = least;
        fewest_sheets = λ r other reads table. let (is_net, has) = sheet_gates t r other reads table in least other.gates is_net has;
        fewest_trees = λ tree tree_is agrees. omega
            (arith, tree_gates_least m n pos several f tree tree_is ((agrees_all t kept.header tree tree_is).1 agrees));
      }

  -- the settled net, ..
  settled_on : WholeTwo t → OnLeaves t (settled_net t)
  unfolding settled_net
  settled_on two = on_leaves (settled_net t) (made_kept t kept two).gates (settled_leaves m n pos several f two)

  -- .. and the shallow one
  shallow_on : WholeTwo t → OnLeaves t (shallow_net t)
  unfolding shallow_net
  shallow_on two = on_leaves (shallow_net t) (shallow_kept t (full_keeps t kept) kept.below two).gates (shallow_leaves m n pos several f two)

  -- whatever the buffers, a sheet written for either of them is accepted as that net
  written_on : (net_for : Table → Net) → (WholeTwo t → NetRules (net_for t)) → (WholeTwo t → OnLeaves t (net_for t)) → (cells marks output sheet : List ℕ)
      → sheet_of (made_into net_for t cells marks output) ≡ accepted sheet → (net : Net) → read_net sheet ≡ accepted net → OnLeaves t net
  written_on net_for kept_net_lem on cells marks output sheet e net reads =
      let (two, printed) = into_accepted net_for t cells marks output sheet e in
      subst (OnLeaves t) (accepted_inj (net_for t) net (sym (net_read_back (net_for t) (kept_net_lem two)) ∙ ap read_net printed ∙ reads)) (on two)

  settled_written : (cells marks output sheet : List ℕ) → sheet_of (made_into settled_net t cells marks output) ≡ accepted sheet
      → (net : Net) → read_net sheet ≡ accepted net → OnLeaves t net
  settled_written = written_on settled_net (made_kept t kept) settled_on

  shallow_written : (cells marks output sheet : List ℕ) → shallow_sheet_of (layered_into shallow_net t cells marks output) ≡ accepted sheet
      → (net : Net) → read_net sheet ≡ accepted net → OnLeaves t net
  shallow_written cells marks output sheet e =
      written_on shallow_net (shallow_kept t (full_keeps t kept) kept.below) shallow_on cells marks output sheet
      (sym (ap sheet_of (plain_into shallow_net t cells marks output)) ∙ e)

-- ---- from a sheet of a full table

module _ (s : List ℕ) (t : Table) (reads : read_full s ≡ accepted t) where
  kept_t : FullTableRules t
  kept_t = (full_accepted s t reads).1

  -- "A settled tree now has just the inputs that matter as leaves": making, ..
  pub made_on_leaves : (cells marks output sheet : List ℕ) → sheet_of (make_call s cells marks output) ≡ accepted sheet
      → (net : Net) → read_net sheet ≡ accepted net → OnLeaves t net
  made_on_leaves cells marks output sheet e =
      settled_written t kept_t cells marks output sheet (sym (ap sheet_of (make_accepted s cells marks output t reads)) ∙ e)

  -- "The families, shallow trees and the finishing of jobs use the same leaves": shallow making, ..
  pub shallow_made_on_leaves : (cells marks output sheet : List ℕ) → shallow_sheet_of (make_shallow_call s cells marks output) ≡ accepted sheet
      → (net : Net) → read_net sheet ≡ accepted net → OnLeaves t net
  shallow_made_on_leaves cells marks output sheet e =
      shallow_written t kept_t cells marks output sheet (sym (ap shallow_sheet_of (make_shallow_accepted s cells marks output t reads)) ∙ e)

  -- .. the tree of each number, ..
  pub family_made_on_leaves : (r : ℕ) (cells marks output sheet : List ℕ) → sheet_of (family_tree_call s r cells marks output) ≡ accepted sheet
      → (net : Net) → read_net sheet ≡ accepted net → OnLeaves t net
  unfolding family_net
  family_made_on_leaves r cells marks output sheet e net reads_net =
      let below = (tree_written s t reads r cells marks output sheet e).0 in
      subst (OnLeaves t) (accepted_inj (family_net r t) net (sym (tree_sheet s t reads r cells marks output sheet e).0 ∙ reads_net))
      (on_leaves t kept_t (family_net r t) (family_kept t kept_t r below).gates (tree_on_leaves s t reads r below))

  -- .. and a job on that sheet, after any list of steps and questions, whenever finishing it writes a sheet
  pub finished_on_leaves : (moves : List Move) (cells marks output sheet : List ℕ)
      → sheet_of (finish_job (after_moves moves (open_job s).job) cells marks output).made ≡ accepted sheet
      → (net : Net) → read_net sheet ≡ accepted net → OnLeaves t net
  unfolding sheet_in
  finished_on_leaves moves cells marks output sheet e =
      by_cases (dec_le (groups s t reads moves) (steps_in moves))
      (λ done. made_on_leaves cells marks output sheet (sym (ap made (finishes s t reads moves cells marks output done)) ∙ e))
      (λ early. absurd (not_refused sheet 22 _ (sym e ∙ ap made (finish_22 s t reads moves cells marks output (lt_of_not-le early)))))
    where
      made : Finished → Answer (List ℕ)
      made finished = sheet_of finished.made

-- ---- from a net sheet

module _ (s : List ℕ) (net : Net) (reads : read_net s ≡ accepted net) where
  kept_net_lem : NetRules net
  kept_net_lem = (net_accepted s net reads).1

  -- settling, ..
  pub settled_on_leaves : (cells marks output sheet : List ℕ) → sheet_of (settle_call s cells marks output) ≡ accepted sheet
      → (other : Net) → read_net sheet ≡ accepted other → OnLeaves (table_of_net net) other
  settled_on_leaves cells marks output sheet e =
      settled_written (table_of_net net) (net_kept net kept_net_lem) cells marks output sheet (sym (ap sheet_of (settle_accepted s cells marks output net reads)) ∙ e)

  -- .. shallow settling, ..
  pub shallow_settled_on_leaves : (cells marks output sheet : List ℕ) → shallow_sheet_of (settle_shallow_call s cells marks output) ≡ accepted sheet
      → (other : Net) → read_net sheet ≡ accepted other → OnLeaves (table_of_net net) other
  shallow_settled_on_leaves cells marks output sheet e =
      shallow_written (table_of_net net) (net_kept net kept_net_lem) cells marks output sheet
      (sym (ap shallow_sheet_of (settle_shallow_accepted s cells marks output net reads)) ∙ e)

  -- .. and why fewer leaves do not suffice: every accepted net uses each input that matters to its table
  pub uses_each_mattering : (i : ℕ) → i < net.header.inputs
      → matters net.header.levels net.header.inputs (ink_in (table_of_net net).inks) i ≡ true → any (eqb i) (used_by net.gates) ≡ true
  unfolding table_of_net
  uses_each_mattering i i< is =
      net_uses net.header.levels net.header.inputs net.gates kept_net_lem.gates i i<
      ∙ net_holds net.header.levels net.header.inputs (levels_pos net.header.levels kept_net_lem.header.levels) _ net.gates kept_net_lem.gates
      (λ p h. sym (table_at net.header.levels net.header.inputs net.gates p h)) i i< is
