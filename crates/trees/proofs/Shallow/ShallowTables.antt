-- The theorems of Shallow/ShallowTables that rest on a definition which a must-fail edit changes: they stand here, so that the edit leaves specs/ readable.
-- Assumes nothing.
use Rattle.std.specs.Prelude.{◌<◌, ◌≤◌, ◌^◌, ◌≡◌}
use Rattle.laws.specs.Prelude.{ℕ, sym, refl, subst⁻¹, List, length}
use Rattle.rules.specs.Calls.Answers.{ink_in}
use Rattle.rules.specs.Calls.Settling.{settled_net}
use Rattle.rules.specs.Calls.ShallowSettling.{shallow_net, net_layers}
use Rattle.rules.specs.Nets.Leaves.{leaves_of}
use Rattle.rules.specs.Nets.Trees.{Tree, wiring_in, tree_value, Computes, GateTree}
use Rattle.rules.specs.Sheets.Printed.{printed_net}
use Rattle.rules.specs.Sheets.Reading.{table_of_net}
use Rattle.rules.specs.Sheets.SheetRules.{IsNet, NetRules, TableRules, FullTable}
use Rattle.rules.specs.Sheets.Sheets.{Gate, Net, Table}
use Rattle.rules.specs.Nets.Layers.{layers}
use Rattle.laws.specs.Calls.Settling.{WholeTwo}
use Rattle.trees.proofs.Trees.Existence.{settled_net_lem, settled_leaves}
use Rattle.trees.specs.Trees.Uniqueness.{table_is, table_at}
use Rattle.trees.specs.Trees.NetTables.{levels_pos, inputs_several, kept_table, net_full}
use Rattle.trees.proofs.Trees.NetTables.{net_whole_two}
use Rattle.trees.specs.Trees.UsedOnce.{same_inputs}
use Rattle.trees.specs.Trees.EquallyLong.{equally_long}
use Rattle.trees.specs.Shallow.Depths.{depth}
use Rattle.trees.proofs.Shallow.ShallowNet.{shallow_net_lem, shallow_leaves, shallowest_net, shallowest_tree}

module _ (t : Table) (kept : TableRules t) (full : FullTable t) (two : WholeTwo t) where
  pos : 0 < t.header.levels
  pos = levels_pos t.header.levels kept.header.levels

  several : 1 < t.header.inputs
  several = inputs_several t.header.inputs kept.header.inputs

  inks_below : (p : ℕ) → p < t.header.levels ^ t.header.inputs → ink_in t.inks p < t.header.levels
  inks_below p h = full p (subst⁻¹ (λ (k : ℕ). p < k) kept.count h)

  pub shallow_kept : NetRules (shallow_net t)
  unfolding shallow_net
  shallow_kept = record {
    header = kept.header;
    gates = (shallow_net_lem t.header.levels t.header.inputs pos several (ink_in t.inks) two inks_below).0;
  }

  pub shallow_has_table : table_of_net (shallow_net t) ≡ t
  unfolding table_of_net shallow_net
  shallow_has_table =
      let has = (shallow_net_lem t.header.levels t.header.inputs pos several (ink_in t.inks) two inks_below).1 in
      λ i. record { header = t.header; inks = table_is t.header.levels t.header.inputs (shallow_net t).gates t.inks kept.count has i }

  -- no gate list with the table has fewer layers, whatever its wiring and tables, ..
  pub shallow_least_gates : (gates : List Gate) → IsNet t.header.levels t.header.inputs gates
      → Computes t.header.levels t.header.inputs gates (ink_in t.inks)
      → net_layers (shallow_net t) ≤ layers t.header.inputs gates
  unfolding shallow_net net_layers
  shallow_least_gates = shallowest_net t.header.levels t.header.inputs pos several (ink_in t.inks) two

  -- .. and no tree has
  pub shallow_least_tree : (tree : Tree) → GateTree t.header.levels t.header.inputs tree
      → ((p : ℕ) → p < t.header.levels ^ t.header.inputs → tree_value t.header.levels t.header.inputs tree p ≡ ink_in t.inks p)
      → net_layers (shallow_net t) ≤ depth (wiring_in tree)
  unfolding shallow_net net_layers
  shallow_least_tree = shallowest_tree t.header.levels t.header.inputs pos several (ink_in t.inks) two

  -- its sheet needs the same room as the settled net's
  pub shallow_as_long : length (printed_net (shallow_net t)) ≡ length (printed_net (settled_net t))
  unfolding shallow_net settled_net
  shallow_as_long =
      let settled_kept : NetRules (settled_net t) = record {
        header = kept.header;
        gates = (settled_net_lem t.header.levels t.header.inputs pos several (ink_in t.inks) inks_below two).0;
      } in
      let used = same_inputs t.header.inputs (shallow_net t).gates (settled_net t).gates
      (leaves_of t.header.levels t.header.inputs (ink_in t.inks))
      (shallow_leaves t.header.levels t.header.inputs pos several (ink_in t.inks) two)
      (settled_leaves t.header.levels t.header.inputs pos several (ink_in t.inks) two) in
      equally_long (shallow_net t) (settled_net t) shallow_kept settled_kept refl used

-- no net with the table has fewer layers
pub shallow_least_net : (net : Net) → NetRules net → net_layers (shallow_net (table_of_net net)) ≤ net_layers net
unfolding net_layers table_of_net
shallow_least_net net kept =
    shallow_least_gates (table_of_net net) (kept_table net kept) (net_full net kept) (net_whole_two net kept) net.gates kept.gates
    (λ p h. sym (table_at net.header.levels net.header.inputs net.gates p h))
