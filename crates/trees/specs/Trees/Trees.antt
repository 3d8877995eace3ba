-- What the theorems are about: wirings of a group, the class rule's tree, alike as a statement. (Trees are in `rules`, `Nets/Trees`; a net sheet's
-- rules in `Sheets/SheetRules`.)
-- Assumes nothing.
use Rattle.std.specs.Prelude.{◌+◌, ◌≡◌}
use Rattle.laws.specs.Prelude.{ℕ, false, Bool}
use Rattle.rules.specs.Groups.Groups.{part, others}
use Rattle.rules.specs.Nets.Filling.{gate_digits}
use Rattle.rules.specs.Nets.Trees.{Tree, leaf, node, EachOnce}
use Rattle.rules.specs.Nets.Wirings.{Wiring, input, gate, group_of}

-- ---- wirings

-- a wiring of group g: its leaves are g's members, each once
abbrev pub WiringOf : ℕ → ℕ → Wiring → Type 0
WiringOf n g w = EachOnce n w × (group_of w ≡ g)

-- something holds for every gate's group
abbrev pub EachGate : (ℕ → Type 0) → Wiring → Type 0
EachGate P (input i) = Unit {0}
EachGate P (gate a b) = P (group_of (gate a b)) × EachGate P a × EachGate P b

-- ---- trees

-- the class rule's filling of a wiring
unfoldable pub fill : ℕ → ℕ → (ℕ → ℕ) → Bool → Wiring → Tree
fill m n f last (input i) = leaf i
fill m n f last (gate a b) = node (gate_digits m n f last (group_of a) (group_of b)) (fill m n f false a) (fill m n f false b)

-- ---- alike, as a statement

-- p's levels at the members of g, y's at the other inputs
unfoldable pub mix : ℕ → ℕ → ℕ → ℕ → ℕ → ℕ
mix m n g p y = part m n g p + part m n (others n g) y

-- p and q are alike for group g: whatever the other inputs are, the ink is the same
abbrev pub Alike : ℕ → ℕ → (ℕ → ℕ) → ℕ → ℕ → ℕ → Type 0
Alike m n f g p q = (y : ℕ) → f (mix m n g p y) ≡ f (mix m n g q y)

-- v and the other inputs determine the ink
abbrev pub Tells : ℕ → ℕ → (ℕ → ℕ) → ℕ → (ℕ → ℕ) → Type 0
Tells m n f g v = (p q : ℕ) → v p ≡ v q → Alike m n f g p q
