-- Document 01, section 'Groups': the multiplicity call.
-- Assumes nothing.
use Rattle.std.specs.Prelude.{ℕ, ◌^◌, true, false, ◌||◌, List, eqb, leb}
use Rattle.rules.specs.Groups.Groups.{multiplicity}
use Rattle.rules.specs.Calls.Answers.{Answer, accepted, ink_in, onward, refused}
use Rattle.rules.specs.Calls.OpenCells.{full_cells}

-- "The multiplicity call takes bare cells (m, n and one byte a cell in index order) and a group". Document 02, K1: it "gives the true number of
-- classes, however large".
-- 11: "group 0 or not below 2 to the n; place 0"
unfoldable pub multiplicity_call : ℕ → ℕ → List ℕ → ℕ → Answer ℕ
multiplicity_call m n cells g =
    onward (full_cells m n cells)
    (λ _. elim (eqb g 0 || leb (2 ^ n) g) [ true ↦ refused 11 0 | false ↦ accepted (multiplicity m n (ink_in cells) g) ])

-- all of this file computes
unfoldable pub computing : Unit {0}
unfolding multiplicity_call
computing = tt
