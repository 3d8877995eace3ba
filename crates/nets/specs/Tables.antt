-- The digits of each gate of a net: they are m·m digits below m, inside the net's digits.
-- Assumes nothing.
use Rattle.std.specs.Prelude.{◌<◌, ◌≤◌, ◌+◌, ◌*◌, ◌≡◌}
use Rattle.laws.specs.Prelude.{ℕ, suc, zero, map, zero-add, add-zero, mul-pos, arith, length, length-drop, length-take}
use Rattle.rules.specs.Lists.{range}
use Rattle.rules.specs.Sheets.Sheets.{Gate}
use Rattle.rules.specs.Sheets.SheetRules.{GateTable, Tables}
use Rattle.nets.specs.declared.forms.Net.{Net}
use Rattle.nets.specs.Forms.{gate_of, gates_of}
use Rattle.nets.specs.Sound.{Sound, net_levels_pos}

-- what holds for a gate list holds for each gate

module _ (f : ℕ → Gate) where
  table_at : (m from count k : ℕ) → k < count → Tables m (map f (range from count)) → GateTable m (f (from + k)).digits
  unfolding range
  table_at m from zero k h t = absurd (omega arith)
  table_at m from (suc count) zero h t = rw add-zero t.0
  table_at m from (suc count) (suc k) h t =
      let e : from + suc k ≡ suc from + k = omega arith in
      rw e (table_at m (suc from) count k (omega arith) t.1)

-- ---- the gate with k gates before it

module _ (net : Net) (sound : Sound net) (k : ℕ) (turn : k < net.gates) where
  pub net_gate_table : GateTable net.levels (gate_of net k).digits
  unfolding gates_of
  net_gate_table = rw zero-add at (table_at (gate_of net) net.levels 0 net.gates k turn sound.gates.rules.tables)

  pub digits_within : k * (net.levels * net.levels) + net.levels * net.levels ≤ length net.digits
  unfolding gate_of
  digits_within = omega (arith, mul-pos (net_levels_pos net sound) (net_levels_pos net sound), simp (length-take, length-drop) at net_gate_table.count)
