-- The theorems of Cases/Refusals that rest on a definition which a must-fail edit changes: they stand here, so that the edit leaves specs/ readable.
-- Assumes nothing.
use Rattle.std.specs.Prelude.{ℕ, ◌≡◌, refl, List}
use Rattle.rules.specs.Calls.Answers.{refused, onward}
use Rattle.rules.specs.Calls.OpenCells.{full_cells}
use Rattle.rules.specs.Calls.Multiplicity.{multiplicity_call}
use Rattle.rules.specs.Calls.Marking.{marking_call}
use Rattle.rules.specs.Cases.Written.{writing}
use Rattle.rules.specs.Evaluation.{computing}
use Rattle.rules.specs.Cases.GlyphCases.{signed_from, signed}
use Rattle.rules.specs.Cases.Refusals.{◌and◌, AllCome, CellsBack, arrivals_back_lem, job_stepped, loose_back, named_by, net_back_lem, none, refusals, table_back}

-- ---- what an example says

pub cells_back : {m n : ℕ} {cells : List ℕ} {number place : ℕ} → full_cells m n cells ≡ refused number place → CellsBack m n cells number place
unfolding multiplicity_call marking_call onward
cells_back e = record { counting = λ g. rw (e, multiplicity_call); marking = λ marks. rw (e, marking_call) }

-- ---- the examples of docs/REFUSALS.md, in its order

pub refusals_hold : AllCome refusals
unfolding computing writing named_by job_stepped signed_from signed
refusals_hold =
    net_back_lem refl and net_back_lem refl and table_back refl and net_back_lem refl and net_back_lem refl and net_back_lem refl and net_back_lem refl
    and net_back_lem refl and net_back_lem refl and net_back_lem refl and net_back_lem refl and table_back refl and loose_back refl and loose_back refl and loose_back refl
    and loose_back refl and loose_back refl and net_back_lem refl and net_back_lem refl and net_back_lem refl and table_back refl and net_back_lem refl
    and net_back_lem refl and table_back refl and table_back refl and loose_back refl and table_back refl and table_back refl and net_back_lem refl and net_back_lem refl
    and net_back_lem refl and net_back_lem refl and net_back_lem refl and net_back_lem refl and cells_back refl and cells_back refl and cells_back refl
    and cells_back refl and refl and cells_back refl and refl and refl and refl and refl and refl and refl and refl and refl and refl
    and refl and refl and refl and refl and refl and refl and refl and refl and refl and refl and refl and refl and refl and refl and refl
    and refl and refl and refl and arrivals_back_lem refl and arrivals_back_lem refl and arrivals_back_lem refl and arrivals_back_lem refl
    and arrivals_back_lem refl and arrivals_back_lem refl and loose_back refl and loose_back refl and refl and refl and refl and refl and refl
    and refl and refl and refl and refl and refl and refl and refl and refl and refl and refl and net_back_lem refl and net_back_lem refl and net_back_lem refl
    and cells_back refl and cells_back refl and refl and refl and refl and refl and refl
    and none
