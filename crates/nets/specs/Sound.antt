-- What reading and settling prove about a net.
-- Assumes nothing.
use Rattle.std.specs.Prelude.{◌<◌, ◌≤◌, ◌+◌, ◌≡◌}
use Rattle.laws.specs.Prelude.{true, arith, length}
use Rattle.rules.specs.Limits.{size_fits}
use Rattle.rules.specs.Sheets.SheetRules.{IsNet}
use Rattle.laws.specs.Lists.Ranges.{map_range_length}
use Rattle.laws.specs.Numbers.Sizes.{Size, sized}
use Rattle.nets.specs.declared.forms.Net.{Net}
use Rattle.nets.specs.Forms.{gate_of, gates_of}
use Rattle.nets.specs.Room.{most_wires}

-- the net of an accepted sheet
pub record Sound (net : Net) : Type 0 where
  pub size : size_fits net.levels net.inputs ≡ true
  pub gates : IsNet net.levels net.inputs (gates_of net)

pub gates_length : (net : Net) → length (gates_of net) ≡ net.gates
unfolding gates_of
gates_length net = map_range_length (gate_of net) 0 net.gates

module _ (net : Net) (sound : Sound net) where
  pub sound_size : Size net.levels net.inputs
  sound_size = sized net.levels net.inputs sound.size

  pub net_levels_pos : 0 < net.levels
  net_levels_pos = omega (arith, sound_size.levels_least)

  -- "A net sheet may have from 1 to n − 1 gate lines" (document 02, K12)
  pub gates_pos : 0 < net.gates
  gates_pos = omega (arith, gates_length net, sound.gates.some)

  pub gates_count : net.gates < net.inputs
  gates_count = omega (arith, gates_length net, sound.gates.count)

  -- there is room for all inputs and gates
  pub wires_room : net.inputs + net.gates ≤ most_wires
  wires_room = omega (arith, gates_count, sound_size.inputs_most)
