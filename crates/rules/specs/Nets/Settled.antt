-- Document 01, section 'The settled net': the choice of its wiring from the marks, and the net. The rule for the gates' digits is
-- in `Filling`.
-- Assumes nothing.
use Rattle.std.specs.Prelude.{ℕ, ◌+◌, ◌-◌, ◌&&◌, List}
use Rattle.rules.specs.Lists.{range, first_place}
use Rattle.rules.specs.Sheets.Sheets.{Gate}
use Rattle.rules.specs.Groups.Groups.{member}
use Rattle.rules.specs.Groups.Marks.{parts_at}
use Rattle.rules.specs.Nets.Wirings.{Wiring, first_input, wiring_by, links_of}
use Rattle.rules.specs.Nets.Filling.{filled}
use Rattle.rules.specs.Nets.Leaves.{leaves_of}

-- "A group of mark 2 with several members is parted as (A, B), both of mark 2, A holding its first-listed input, A of lowest
-- number." The result is A's number. For a non-empty g without such an A it is g itself, which no wiring uses.
unfoldable pub split_of : ℕ → List ℕ → ℕ → ℕ
split_of n marks g = 1 + first_place (λ a. parts_at n marks g a && member (first_input n g) a) (range 1 (g - 1))

-- the settled wiring of the group `leaves`, from the marks
unfoldable pub settled_wiring : ℕ → List ℕ → ℕ → Wiring
settled_wiring n marks leaves = wiring_by n (split_of n marks) n leaves

-- The settled net of a table, from its marks. "A settled tree now has just the inputs that matter as leaves" (document 02, K12)
unfoldable pub settled_gates : ℕ → ℕ → (ℕ → ℕ) → List ℕ → List Gate
settled_gates m n f marks = filled m n f (links_of n 0 (settled_wiring n marks (leaves_of m n f)))

-- all of this file computes
unfoldable pub computing : Unit {0}
unfolding split_of settled_wiring settled_gates
computing = tt
