-- Where a gate of a sound net is: its left and right wire, its own wire, and its digits.
-- Assumes nothing.
use Rattle.std.specs.Prelude.{◌<◌, ◌≤◌, ◌-◌, ◌*◌}
use Rattle.laws.specs.Prelude.{ℕ, mul-le-mul, arith, get_or}
use Rattle.nets.specs.declared.forms.Net.{Net}
use Rattle.nets.specs.References.{gate_step}
use Rattle.nets.specs.Room.{most_gates, most_wires}
use Rattle.nets.specs.Sound.{Sound, sound_size, gates_count, gates_pos, wires_room}

module _ (net : Net) (sound : Sound net) where
  pub some_gates : 0 < net.gates
  some_gates = gates_pos net sound

  pub few_gates : net.gates ≤ most_gates
  few_gates = omega (arith, gates_count net sound, (sound_size net sound).inputs_most)

  pub few_wires : net.gates ≤ most_wires - net.inputs
  few_wires = omega (arith, wires_room net sound)

  -- a gate has few digits
  pub square_small : net.levels * net.levels ≤ 81
  square_small = mul-le-mul (sound_size net sound).levels_most (sound_size net sound).levels_most

  module _ (k : ℕ) (turn : k < net.gates) where
    pub left_near : get_or net.left k 0 < most_wires
    left_near = omega (arith, gate_step net sound k turn)

    pub right_near : get_or net.right k 0 < most_wires
    right_near = omega (arith, gate_step net sound k turn)

    pub digits_near : k * (net.levels * net.levels) ≤ most_gates * 81
    digits_near = let few : k ≤ most_gates = omega (arith, few_gates) in mul-le-mul few square_small

-- these facts, for `grind`
pub ruleset gate_places = (some_gates, few_gates, few_wires, left_near, right_near, digits_near)
