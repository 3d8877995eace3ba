-- What the code's forms represent in the definitions.
-- Assumes nothing.
use Rattle.std.specs.Prelude.{◌<◌, ◌≤◌, ◌+◌, ◌*◌, ◌≡◌}
use Rattle.laws.specs.Prelude.{ℕ, List, map, length, get_or, take, drop, replicate}
use Rattle.rules.specs.Lists.{range}
use Rattle.rules.specs.Sheets.Sheets as sheets
use Rattle.rules.specs.Limits.{most_inputs}
use Rattle.laws.specs.Lists.Ranges.{map_range_length}
use Rattle.nets.specs.Room.{most_gates, most_digits}
use Rattle.nets.specs.declared.forms.Header.{Header}
use Rattle.nets.specs.declared.forms.Net.{Net}

-- name i of a header in the sheet s
unfoldable pub name_in : List ℕ → Header → ℕ → List ℕ
name_in s h i = take (get_or h.lens i 0) (drop (get_or h.starts i 0) s)

-- name i is inside the sheet
abbrev pub NameHeld : List ℕ → Header → ℕ → Type 0
NameHeld s h i = get_or h.starts i 0 + get_or h.lens i 0 ≤ length s

-- the first `count` names are inside the sheet
abbrev pub NamesHeld : List ℕ → Header → ℕ → Type 0
NamesHeld s h count = (i : ℕ) → i < count → NameHeld s h i

unfoldable pub header_of : List ℕ → Header → sheets.Header
header_of s h = record { levels = h.levels; inputs = h.inputs; names = map (name_in s h) (range 0 h.inputs) }

-- all names of a header, and the table of these names
abbrev pub names_in : List ℕ → Header → List (List ℕ)
names_in s h = (header_of s h).names

pub names_count : (s : List ℕ) (h : Header) → length (names_in s h) ≡ h.inputs
unfolding header_of
names_count s h = map_range_length (name_in s h) 0 h.inputs

abbrev pub table_in : List ℕ → Header → List ℕ → sheets.Table
table_in s h inks = record { header = header_of s h; inks = inks }

-- the gate with k gates before it
unfoldable pub gate_of : Net → ℕ → sheets.Gate
gate_of net k =
    record {
      left = get_or net.left k 0;
      right = get_or net.right k 0;
      digits = take (net.levels * net.levels) (drop (k * (net.levels * net.levels)) net.digits);
    }

unfoldable pub gates_of : Net → List sheets.Gate
gates_of net = map (gate_of net) (range 0 net.gates)

-- the net of a header's names and these gates
abbrev pub net_in : List ℕ → Header → Net → sheets.Net
net_in s h net = record { header = header_of s h; gates = gates_of net }

-- a header with no name yet
unfoldable pub no_names_of : ℕ → ℕ → Header
no_names_of m n = record { levels = m; inputs = n; starts = replicate most_inputs 0; lens = replicate most_inputs 0 }

-- a net with no gate yet
unfoldable pub no_gates : ℕ → ℕ → Net
no_gates m n =
    record { levels = m; inputs = n; gates = 0; left = replicate most_gates 0; right = replicate most_gates 0; digits = replicate most_digits 0 }
