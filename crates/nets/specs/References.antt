-- The references of a gate are inputs and earlier gates: one step over a net's gates.
-- Assumes nothing.
use Rattle.std.specs.Prelude.{◌<◌, ◌+◌, ◌≡◌}
use Rattle.laws.specs.Prelude.{ℕ, suc, zero, map, zero-add, add-zero, arith, get_or}
use Rattle.rules.specs.Lists.{range}
use Rattle.rules.specs.Sheets.Sheets.{Gate}
use Rattle.rules.specs.Sheets.SheetRules.{RefersBack}
use Rattle.nets.specs.declared.forms.Net.{Net}
use Rattle.nets.specs.Forms.{gate_of, gates_of}
use Rattle.nets.specs.Room.{most_gates, most_wires}
use Rattle.nets.specs.Sound.{Sound, sound_size, gates_count, wires_room}

back_at : (f : ℕ → Gate) (i from count k : ℕ) → k < count → RefersBack i (map f (range from count)) → ((f (from + k)).left < i + k)
    × ((f (from + k)).right < i + k)
unfolding range
back_at f i from zero k h b = absurd (omega arith)
back_at f i from (suc count) zero h b = simp add-zero (b.0, b.1)
back_at f i from (suc count) (suc k) h b =
    let e : from + suc k ≡ suc from + k = omega arith in
    let e' : i + suc k ≡ suc i + k = omega arith in
    rw (e, e') (back_at f (suc i) (suc from) count k (omega arith) b.2)

-- one step over a net's gates: gate k reads two earlier wires and writes wire n + k, and there is room for it
abbrev pub GateStep : Net → ℕ → Type 0
GateStep net k =
    (get_or net.left k 0 < net.inputs + k) × (get_or net.right k 0 < net.inputs + k) × (net.inputs + k < most_wires) × (k < most_gates)

pub gate_step : (net : Net) → Sound net → (k : ℕ) → k < net.gates → GateStep net k
unfolding gates_of gate_of
gate_step net sound k turn =
    let back = rw zero-add at (back_at (gate_of net) net.inputs 0 net.gates k turn sound.gates.rules.back) in
    (back.0, back.1, omega (arith, wires_room net sound), omega (arith, gates_count net sound, (sound_size net sound).inputs_most))
