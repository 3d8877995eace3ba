-- Document 01, section 'Value of a net'.
-- Assumes nothing.
use Rattle.std.specs.Prelude.{ℕ, ◌+◌, ◌-◌, ◌*◌, ◌^◌, List, map, length, get_or}
use Rattle.rules.specs.Lists.{range, with_each}
use Rattle.rules.specs.Sheets.Sheets.{Gate, levels_at}

-- "A gate's value is its digit at (left's value · m + right's value)." `values` holds every reference's value so far.
unfoldable pub gate_value : ℕ → List ℕ → Gate → ℕ
gate_value m values g = get_or g.digits (get_or values g.left 0 * m + get_or values g.right 0) 0

-- the values of all references: the inputs' levels, then the gates', in order
abbrev pub with_gates : ℕ → List ℕ → List Gate → List ℕ
with_gates m values gates = with_each (gate_value m) values gates

-- "The net's value is its last gate's." Here with these levels at its inputs: "An assignment gives each input a level."
unfoldable pub value_with : ℕ → ℕ → List Gate → List ℕ → ℕ
value_with m n gates levels = get_or (with_gates m levels gates) (n + length gates - 1) 0

-- the value at the assignment of index p
unfoldable pub value : ℕ → ℕ → List Gate → ℕ → ℕ
value m n gates p = value_with m n gates (levels_at m n p)

-- "Its table lists the values over all assignments in index order, and that table is the one it computes."
unfoldable pub table_of : ℕ → ℕ → List Gate → List ℕ
table_of m n gates = map (value m n gates) (range 0 (m ^ n))

-- all of this file computes
unfoldable pub computing : Unit {0}
unfolding gate_value value_with value table_of
computing = tt
