-- A net's table follows a table sheet's rules and has a tree; its settled net follows a net sheet's rules and has that table.
-- Assumes nothing.
use Rattle.std.specs.Prelude.{◌<◌, ◌≡◌}
use Rattle.laws.specs.Prelude.{ℕ, subst, true, arith}
use Rattle.rules.specs.Limits.{levels_fit, inputs_fit}
use Rattle.rules.specs.Sheets.Reading.{table_of_net}
use Rattle.rules.specs.Sheets.SheetRules.{NetRules, TableRules, FullTable}
use Rattle.rules.specs.Sheets.Sheets.{Net}
use Rattle.laws.specs.Numbers.Sizes.{levels_fit_lem, inputs_fit_lem}
use Rattle.trees.specs.Trees.Uniqueness.{net_table_length, net_inks}

pub levels_pos : (m : ℕ) → levels_fit m ≡ true → 0 < m
levels_pos m h = omega (arith, ((levels_fit_lem m).0 h).0)

pub inputs_several : (n : ℕ) → inputs_fit n ≡ true → 1 < n
inputs_several n h = ((inputs_fit_lem n).0 h).0

module _ (net : Net) (kept : NetRules net) where
  pub pos : 0 < net.header.levels
  pos = levels_pos net.header.levels kept.header.levels

  -- a net's table is full, ..
  pub net_full : FullTable (table_of_net net)
  unfolding table_of_net
  net_full k h =
      let count = net_table_length net.header.levels net.header.inputs net.gates in
      net_inks net.header.levels net.header.inputs pos net.gates kept.gates k (subst (λ (l : ℕ). k < l) count h)

  -- .. it follows a table's rules, and its whole group has mark 2
  pub kept_table : TableRules (table_of_net net)
  unfolding table_of_net
  kept_table = record {
    header = kept.header;
    count = net_table_length net.header.levels net.header.inputs net.gates;
    within = λ k h. omega (arith, net_full k h);
  }
