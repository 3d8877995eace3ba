-- The theorems of Trees/NetTables that rest on a definition which a must-fail edit changes: they stand here, so that the edit leaves specs/ readable.
-- Assumes nothing.
use Rattle.std.specs.Prelude.{◌≡◌}
use Rattle.rules.specs.Calls.Settling.{settled_net}
use Rattle.rules.specs.Sheets.Reading.{table_of_net}
use Rattle.rules.specs.Sheets.SheetRules.{NetRules}
use Rattle.rules.specs.Sheets.Sheets.{Net}
use Rattle.laws.specs.Calls.Settling.{WholeTwo}
use Rattle.trees.specs.Trees.Uniqueness.{settled_of}
use Rattle.trees.proofs.Trees.Uniqueness.{net_two, settled_is_net, settled_table}
use Rattle.trees.specs.Trees.NetTables.{pos}

module _ (net : Net) (kept : NetRules net) where
  pub net_whole_two : WholeTwo (table_of_net net)
  unfolding table_of_net
  net_whole_two = net_two net.header.levels net.header.inputs (pos net kept) net.gates kept.gates

  -- its settled net follows a net's rules, and has its table
  pub settled_kept : NetRules (settled_net (table_of_net net))
  unfolding settled_net table_of_net settled_of
  settled_kept = record { header = kept.header; gates = settled_is_net net.header.levels net.header.inputs (pos net kept) net.gates kept.gates }

  pub settled_has_table : table_of_net (settled_net (table_of_net net)) ≡ table_of_net net
  unfolding settled_net table_of_net settled_of
  settled_has_table = λ i. record { header = net.header; inks = settled_table net.header.levels net.header.inputs (pos net kept) net.gates kept.gates i }
