-- Document 02, K12: which inputs matter, and which inputs are the leaves of a tree made of a table.
-- Assumes nothing.
use Rattle.std.specs.Prelude.{ℕ, ◌-◌, ◌^◌, Bool, not, List, ◌++◌, map, length, take}
use Rattle.rules.specs.Lists.{range, any, those, total}
use Rattle.rules.specs.Groups.Groups.{points, alike}

-- "An input matters when some two assignments differing only there differ in ink.": two assignments of this input as a group that are not alike
unfoldable pub matters : ℕ → ℕ → (ℕ → ℕ) → ℕ → Bool
matters m n f i = let own = points m n (2 ^ i) in any (λ p. any (λ q. not (alike m n f (2 ^ i) p q)) own) own

-- the inputs that matter, in their order
unfoldable pub mattering : ℕ → ℕ → (ℕ → ℕ) → List ℕ
mattering m n f = those (matters m n f) (range 0 n)

-- "A settled tree now has just the inputs that matter as leaves; if fewer than two do, the first-listed others make up two."
unfoldable pub leaf_inputs : ℕ → ℕ → (ℕ → ℕ) → List ℕ
leaf_inputs m n f = let these = mattering m n f in these ++ take (2 - length these) (those (λ i. not (matters m n f i)) (range 0 n))

-- the leaves as a group
unfoldable pub leaves_of : ℕ → ℕ → (ℕ → ℕ) → ℕ
leaves_of m n f = total (map (λ i. 2 ^ i) (leaf_inputs m n f))

-- all of this file computes
unfoldable pub computing : Unit {0}
unfolding matters mattering leaf_inputs leaves_of
computing = tt
