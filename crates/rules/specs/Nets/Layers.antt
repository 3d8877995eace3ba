-- Document 02, K2: the layers of a net.
-- Assumes nothing.
use Rattle.std.specs.Prelude.{ℕ, suc, ◌+◌, ◌-◌, max, List, [], ◌∷◌, ◌++◌, map, length, get_or}
use Rattle.rules.specs.Lists.{range, with_each}
use Rattle.rules.specs.Sheets.Sheets.{Gate}

-- A way from an input to a reference, by the number of gates on it: the ways to a gate are those to its left and those to its right, each with
-- one more gate. `ways` holds the ways to every reference so far.
unfoldable pub gate_ways : List (List ℕ) → Gate → List ℕ
gate_ways ways g = map suc (get_or ways g.left [] ++ get_or ways g.right [])

-- the ways to all references: the given ones, to the inputs; then those to the gates, in order
abbrev pub with_ways : List (List ℕ) → List Gate → List (List ℕ)
with_ways ways gates = with_each gate_ways ways gates

-- the ways "from an input to the output", which is the last gate: to an input there is one way, with no gate on it
unfoldable pub ways_of : ℕ → List Gate → List ℕ
ways_of n gates = get_or (with_ways (map (λ _. 0 ∷ []) (range 0 n)) gates) (n + length gates - 1) []

-- the largest of some numbers
unfoldable pub most : List ℕ → ℕ
most [] = 0
most (x ∷ xs) = max x (most xs)

-- "The layers of a net are the most gates on a way from an input to the output."
unfoldable pub layers : ℕ → List Gate → ℕ
layers n gates = most (ways_of n gates)

-- all of this file computes
unfoldable pub computing : Unit {0}
unfolding gate_ways ways_of most layers
computing = tt
