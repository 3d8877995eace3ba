-- What calls share: an answer, which of two sheets a refusal names, the ink in a list of cells, what a buffer holds after it is written.
-- Assumes nothing.
use Rattle.std.specs.Prelude.{ℕ, List, ◌++◌, length, get_or, drop}

-- the answer of a call: a value, or a refusal with its number and place
pub data Answer (A : Type 0) : Type 0 where
  accepted : A → Answer A
  refused : ℕ → ℕ → Answer A

-- passes an accepted value to the rest of a call; a refusal becomes the call's
unfoldable pub onward : {A B : Type 0} → Answer A → (A → Answer B) → Answer B
onward (accepted a) next = next a
onward (refused number place) next = refused number place

-- which of the two sheets a refusal names
pub data Named : Type 0 where
  net_named table_named neither : Named

-- the ink at each index, from a list of cells
abbrev pub ink_in : List ℕ → ℕ → ℕ
ink_in cells p = get_or cells p 0

-- "Longer buffers keep their further bytes."
unfoldable pub written : List ℕ → List ℕ → List ℕ
written buffer bytes = bytes ++ drop (length bytes) buffer

-- all of this file computes
unfoldable pub computing : Unit {0}
unfolding onward written
computing = tt
