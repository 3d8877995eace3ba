-- Wirings: which two things each gate joins. A wiring is a value, independent of how it was chosen (`Settled`, `Shallow`, `Family`) and of its gates'
-- digits (`Filling`): a tree (`Wiring`), or gate lines without their tables (`Link`).
-- Assumes nothing.
use Rattle.std.specs.Prelude.{ℕ, zero, suc, ◌+◌, ◌-◌, ◌^◌, true, false, List, [], ◌∷◌, ◌++◌, eqb}
use Rattle.rules.specs.Lists.{range, first_place}
use Rattle.rules.specs.Groups.Groups.{member, size}

-- an input, or a gate that joins two wirings, left and right
pub data Wiring : Type 0 where
  input : ℕ → Wiring
  gate : Wiring → Wiring → Wiring

-- the group of the inputs below
unfoldable pub group_of : Wiring → ℕ
group_of (input i) = 2 ^ i
group_of (gate a b) = group_of a + group_of b

-- ---- from a choice of parts

-- a group's "first-listed input"
unfoldable pub first_input : ℕ → ℕ → ℕ
first_input n g = first_place (λ i. member i g) (range 0 n)

-- The wiring of group g where `split` says which part of a group is A. "A goes left." "A single input is wired by name."
-- `fuel` is at least the number of members.
unfoldable pub wiring_by : ℕ → (ℕ → ℕ) → ℕ → ℕ → Wiring
wiring_by n split zero g = input (first_input n g)
wiring_by n split (suc fuel) g =
    elim (eqb (size n g) 1) [
      | true ↦ input (first_input n g)
      | false ↦ let a = split g in gate (wiring_by n split fuel a) (wiring_by n split fuel (g - a))
    ]

-- ---- as gate lines

-- a gate line without its table; references are numbered as a gate's
pub record Link : Type 0 where
  pub left : ℕ
  pub right : ℕ

-- how many gates a wiring has
unfoldable pub gates_in : Wiring → ℕ
gates_in (input i) = 0
gates_in (gate a b) = gates_in a + gates_in b + 1

-- the reference to a wiring whose lines come after `before` others: its own line is its last
unfoldable pub reference_to : ℕ → ℕ → Wiring → ℕ
reference_to n before (input i) = i
reference_to n before (gate a b) = n + before + gates_in a + gates_in b

-- "Gate lines: A's, then B's, then the group's own."
unfoldable pub links_of : ℕ → ℕ → Wiring → List Link
links_of n before (input i) = []
links_of n before (gate a b) =
    links_of n before a
    ++ links_of n (before + gates_in a) b
    ++ (record { left = reference_to n before a; right = reference_to n (before + gates_in a) b } ∷ [])

-- all of this file computes
unfoldable pub computing : Unit {0}
unfolding group_of first_input wiring_by gates_in reference_to links_of
computing = tt
