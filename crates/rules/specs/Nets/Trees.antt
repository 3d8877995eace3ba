-- Trees. "a tree is any net as above with the same m and n, whatever its wiring and its gates' digits. It is fanout-free, since nothing in it is
-- referred to twice."
-- (document 01, 'Marks'). Stated for nets, whose gate lines are listed, and for trees as values, which have no line order.
-- Assumes nothing.
use Rattle.std.specs.Prelude.{ℕ, ◌+◌, ◌*◌, ◌^◌, ◌<◌, ◌≡◌, false, ◌&&◌, List, get_or, eqb}
use Rattle.rules.specs.Lists.{any}
use Rattle.rules.specs.Sheets.Sheets.{Gate, level, used_by}
use Rattle.rules.specs.Sheets.SheetRules.{GateTable, IsNet}
use Rattle.rules.specs.Groups.Groups.{member}
use Rattle.rules.specs.Nets.Value.{value}
use Rattle.rules.specs.Nets.Wirings.{Wiring, input, gate, group_of, gates_in}
use Rattle.rules.specs.Nets.Leaves.{leaves_of}

-- ---- nets

-- the gates compute the table `f`: "Its table lists the values over all assignments in index order, and that table is the one it computes."
abbrev pub Computes : ℕ → ℕ → List Gate → (ℕ → ℕ) → Type 0
Computes m n gates f = (p : ℕ) → p < m ^ n → value m n gates p ≡ f p

-- some net of m levels and n inputs has the table
abbrev pub TreeExists : ℕ → ℕ → (ℕ → ℕ) → Type 0
TreeExists m n f = (gates : List Gate) × IsNet m n gates × Computes m n gates f

-- the gates use the members of group g and no other input
abbrev pub UsesJust : ℕ → List Gate → ℕ → Type 0
UsesJust n gates g = (i : ℕ) → i < n → any (eqb i) (used_by gates) ≡ member i g

-- a net on just the table's leaves has the table
abbrev pub LeafTree : ℕ → ℕ → (ℕ → ℕ) → Type 0
LeafTree m n f = (gates : List Gate) × IsNet m n gates × Computes m n gates f × UsesJust n gates (leaves_of m n f)

-- ---- wirings

-- the two groups share no input
abbrev pub Apart : ℕ → ℕ → ℕ → Type 0
Apart n a b = (i : ℕ) → i < n → (member i a && member i b) ≡ false

-- every leaf is an input, and no input is at two leaves
abbrev pub EachOnce : ℕ → Wiring → Type 0
EachOnce n (input i) = i < n
EachOnce n (gate a b) = Apart n (group_of a) (group_of b) × EachOnce n a × EachOnce n b

-- Two wirings that "differ only in which side is left" (document 02, K3)
pub data Turned : Wiring → Wiring → Type 0 where
  same_input : {i : ℕ} → Turned (input i) (input i)
  straight : {a b c d : Wiring} → Turned a c → Turned b d → Turned (gate a b) (gate c d)
  crossed : {a b c d : Wiring} → Turned a d → Turned b c → Turned (gate a b) (gate c d)

-- ---- trees as values

-- A tree is a wiring with digits at each gate: a filling of that wiring. "A leaf is a reference to an input."
pub data Tree : Type 0 where
  leaf : ℕ → Tree
  node : List ℕ → Tree → Tree → Tree

-- its wiring
abbrev pub wiring_in : Tree → Wiring
wiring_in (leaf i) = input i
wiring_in (node digits a b) = gate (wiring_in a) (wiring_in b)

-- its value at the assignment of index p: "A gate's value is its digit at (left's value · m + right's value)."
unfoldable pub tree_value : ℕ → ℕ → Tree → ℕ → ℕ
tree_value m n (leaf i) p = level m n p i
tree_value m n (node digits a b) p = get_or digits (tree_value m n a p * m + tree_value m n b p) 0

-- "Table is m·m digits below m", at each gate
abbrev pub Filled : ℕ → Tree → Type 0
Filled m (leaf i) = Unit {0}
Filled m (node digits a b) = GateTable m digits × Filled m a × Filled m b

-- A "fanout-free tree of two-input gates", with m·m digits below m at each gate: no input at two leaves; "inputs may stay unused" (document 02, K12)
pub record GateTree (m n : ℕ) (t : Tree) : Type 0 where
  pub once : EachOnce n (wiring_in t)
  pub gates : 0 < gates_in (wiring_in t)
  pub filled : Filled m t

-- such a tree computes the table
abbrev pub SomeTree : ℕ → ℕ → (ℕ → ℕ) → Type 0
SomeTree m n f = (t : Tree) × GateTree m n t × ((p : ℕ) → p < m ^ n → tree_value m n t p ≡ f p)

-- all of this file computes
unfoldable pub computing : Unit {0}
unfolding tree_value
computing = tt
