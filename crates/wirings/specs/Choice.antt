-- Which part of a group a choice takes as A, and what the choice needs.
-- Assumes nothing.
use Rattle.std.specs.Prelude.{◌<◌, ◌≤◌}
use Rattle.laws.specs.Prelude.{ℕ, List, lt_of_le_of_lt, length}
use Rattle.rules.specs.Nets.Settled.{split_of}
use Rattle.rules.specs.Nets.Shallow.{shallow_split}
use Rattle.wirings.specs.declared.choice.Choice.{Choice}
use Rattle.wirings.specs.declared.choice.Choice.TheVariants.{Settled, Shallow}

-- A's number in each group, from the marks and the fewest layers
abbrev pub split_by : Choice → ℕ → List ℕ → List ℕ → ℕ → ℕ
split_by Settled n marks fewest = split_of n marks
split_by Shallow n marks fewest = shallow_split n marks fewest

-- the settled choice reads only the marks; the shallow one also reads the fewest layers of the groups up to g
abbrev pub LayersRoom : Choice → ℕ → List ℕ → Type 0
LayersRoom Settled g fewest = Unit {0}
LayersRoom Shallow g fewest = g < length fewest

-- the same for the groups up to a lower group
pub room_below : (choice : Choice) (g : ℕ) (fewest : List ℕ) → LayersRoom choice g fewest → (h : ℕ) → h ≤ g → LayersRoom choice h fewest
room_below Settled g fewest room h low = tt
room_below Shallow g fewest room h low = lt_of_le_of_lt low room
