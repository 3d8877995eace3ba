-- Document 02, K2: the choice of the shallow net's wiring from the marks, and the net. The rule for the gates' digits is in `Filling`.
-- Assumes nothing.
use Rattle.std.specs.Prelude.{ℕ, zero, suc, ◌+◌, ◌-◌, ◌^◌, min, max, ◌&&◌, List, [], ◌∷◌, ◌++◌, map, get_or, eqb}
use Rattle.rules.specs.Lists.{range, those, first_place}
use Rattle.rules.specs.Sheets.Sheets.{Gate}
use Rattle.rules.specs.Groups.Groups.{member}
use Rattle.rules.specs.Groups.Marks.{parts_at}
use Rattle.rules.specs.Nets.Wirings.{Wiring, first_input, wiring_by, links_of}
use Rattle.rules.specs.Nets.Filling.{filled}
use Rattle.rules.specs.Nets.Leaves.{leaves_of}

-- ---- the fewest layers of a group

-- the smallest of some numbers; 0 for an empty list
unfoldable pub least : List ℕ → ℕ
least [] = 0
least (x ∷ []) = x
least (x ∷ y ∷ xs) = min x (least (y ∷ xs))

-- the layers of a gate that joins a and the rest of g, each as shallow as it can be
unfoldable pub split_layers : List ℕ → ℕ → ℕ → ℕ
split_layers fewest g a = 1 + max (get_or fewest a 0) (get_or fewest (g - a) 0)

-- The fewest layers of a group g of mark 2: the least over all splits into two groups of mark 2. `fewest` holds those of the groups below g. A
-- single input has no split, so it gets 0, which is right: it has no gate. A group with several members and mark 0 or 1 may get a number too; no
-- wiring uses it.
unfoldable pub fewest_of : ℕ → List ℕ → List ℕ → ℕ → ℕ
fewest_of n marks fewest g = least (map (split_layers fewest g) (those (parts_at n marks g) (range 1 (g - 1))))

-- the fewest layers of the groups below `count`
unfoldable pub fewest_below : ℕ → List ℕ → ℕ → List ℕ
fewest_below n marks zero = []
fewest_below n marks (suc count) = let fewest = fewest_below n marks count in fewest ++ (fewest_of n marks fewest count ∷ [])

-- the fewest layers of every group
unfoldable pub fewest_layers : ℕ → List ℕ → List ℕ
fewest_layers n marks = fewest_below n marks (2 ^ n)

-- ---- the choice

-- "each group takes the part A of lowest number that keeps its own group shallowest", otherwise as in the settled net. The result is A's
-- number; for a non-empty g without such an A it is g itself, which no wiring uses.
unfoldable pub shallow_split : ℕ → List ℕ → List ℕ → ℕ → ℕ
shallow_split n marks fewest g =
    1 + first_place (λ a. parts_at n marks g a && member (first_input n g) a && eqb (split_layers fewest g a) (get_or fewest g 0)) (range 1 (g - 1))

-- the shallow wiring of the group `leaves`, from the marks
unfoldable pub shallow_wiring : ℕ → List ℕ → ℕ → Wiring
shallow_wiring n marks leaves = let fewest = fewest_layers n marks in wiring_by n (shallow_split n marks fewest) n leaves

-- The shallow net of a table, from its marks. "The families, shallow trees and the finishing of jobs use the same leaves" (document 02, K12)
unfoldable pub shallow_gates : ℕ → ℕ → (ℕ → ℕ) → List ℕ → List Gate
shallow_gates m n f marks = filled m n f (links_of n 0 (shallow_wiring n marks (leaves_of m n f)))

-- all of this file computes
unfoldable pub computing : Unit {0}
unfolding least split_layers fewest_of fewest_below fewest_layers shallow_split shallow_wiring shallow_gates
computing = tt
