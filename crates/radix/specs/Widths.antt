-- The ranges of the code's numbers: more than a sheet's limits require.
-- Assumes nothing.
use Rattle.std.specs.Prelude.{ℕ, ◌^◌}

-- the most members of a group: its number has a bit for each
abbrev pub most_members : ℕ
most_members = 16

-- above the number of every group
abbrev pub groups_end : ℕ
groups_end = 2 ^ most_members

-- above every offset: one is stored in two bytes
abbrev pub offsets_end : ℕ
offsets_end = 65_536

-- the most cells that offsets refer to
abbrev pub most_offsets : ℕ
most_offsets = 32_768
