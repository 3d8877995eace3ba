-- The nets made of two tables, one a renaming of the other's inks: settled, shallow, of each number of the family, and a kept wiring filled
-- anew. The two nets are the same except for the last table, which is renamed (document 02, K14).
-- Assumes nothing.
use Rattle.std.specs.Prelude.{◌<◌, ◌^◌}
use Rattle.laws.specs.Prelude.{ℕ, List, arith, length-map}
use Rattle.rules.specs.Calls.Keeping.{link_of, gate_links, kept_gates}
use Rattle.rules.specs.Sheets.SheetRules.{IsNet}
use Rattle.rules.specs.Sheets.Sheets.{Gate}
use Rattle.trees.specs.Keeping.KeptWirings.{GatesFew, kept_fillable}
use Rattle.trees.specs.Renaming.Renaming.{Renamed}
use Rattle.trees.specs.Renaming.RenamedGates.{RenamedGates, filled_renamed}

module _ (m n : ℕ) (pos : 0 < m) (r f h : ℕ → ℕ) (below : (p : ℕ) → p < m ^ n → f p < m) (renamed : Renamed m n r f h) where
  -- ---- any wiring

  -- if the gates can be filled for one table, their fillings for the two are the same except for the last table
  pub kept_renamed : (gates : List Gate) → IsNet m n gates → GatesFew m n f gates → RenamedGates m n r (kept_gates m n f gates) (kept_gates m n h gates)
  unfolding kept_gates
  kept_renamed gates net few =
      filled_renamed m n pos r f h below renamed (gate_links gates) (omega (arith, net.some, length-map gates link_of)) (kept_fillable m n pos f gates net few)
