-- Document 01, 'Turned back because of the input': bare cells, which multiplicity and marking take.
-- Assumes nothing.
use Rattle.std.specs.Prelude.{ℕ, ◌^◌, true, false, not, ◌&&◌, List, length, eqb, leb}
use Rattle.rules.specs.Lists.{all, first_place}
use Rattle.rules.specs.Limits.{size_fits}
use Rattle.rules.specs.Calls.Answers.{Answer, accepted, refused}

-- 9: "bare cells: m, n or the cell count outside a sheet's bounds, or length not m to the n; place 0"
-- 10: a bare cell "above m" (document 02, K13: "Bare cells may be m, so 10 now means above m."); "place its index"
unfoldable pub bare_cells : ℕ → ℕ → List ℕ → Answer (Unit {0})
bare_cells m n cells =
    elim (size_fits m n && eqb (length cells) (m ^ n)) [
      | false ↦ refused 9 0
      | true ↦ elim (all (λ c. leb c m) cells) [ true ↦ accepted tt | false ↦ refused 10 (first_place (λ c. not (leb c m)) cells) ]
    ]

-- all of this file computes
unfoldable pub computing : Unit {0}
unfolding bare_cells
computing = tt
