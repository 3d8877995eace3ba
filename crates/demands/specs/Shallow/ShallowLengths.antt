-- The buffers that shallow settling and making need are those of settling and making: "otherwise as document 01 has them".
-- Assumes nothing.
use Rattle.std.specs.Prelude.{◌≡◌}
use Rattle.laws.specs.Prelude.{ℕ, List}
use Rattle.rules.specs.Calls.Answers.{accepted}
use Rattle.rules.specs.Calls.OpenCells.{read_full}
use Rattle.rules.specs.Calls.ShallowSettling.{shallow_net, settle_shallow_call, make_shallow_call}
use Rattle.rules.specs.Sheets.Sheets.{Table}
use Rattle.readback.specs.Readers.Numbers.{net_numbers}
use Rattle.trees.proofs.Shallow.ShallowTables.{shallow_as_long}
use Rattle.demands.specs.Numbers.Numbers.{Gives}
use Rattle.demands.specs.Settling.Settles.{LongFor, Long}
use Rattle.demands.specs.Settling.Makes.{HasTree, two_tree}
use Rattle.demands.specs.Sheets.Lengths.{Ample, table_or_tree, settle_ample_numbers, make_ample_numbers}
use Rattle.demands.specs.Shallow.ShallowRefusals.{settle_shallow_refuses, make_shallow_refuses}
use Rattle.demands.specs.Sheets.FullSheets.{full_accepted, full_keeps}

-- buffers that are long enough for the settled sheet of a table are long enough for its shallow sheet
pub same_room : (s : List ℕ) (t : Table) → read_full s ≡ accepted t → HasTree t
    → (cells marks output : List ℕ) → Long t cells marks output → LongFor shallow_net t cells marks output
same_room s t reads tree cells marks output long =
    let kept = (full_accepted s t reads).1 in
    record {
      cells_fit = long.cells_fit;
      marks_fit = long.marks_fit;
      output_fits = rw (shallow_as_long t (full_keeps t kept) kept.below ((two_tree t kept).0 tree)) long.output_fits;
    }

-- with buffers that always suffice, neither refuses with 13, 14 or 15
module _ (s cells marks output : List ℕ) (ample : Ample cells marks output) where
  pub settle_shallow_ample_numbers : Gives net_numbers (settle_shallow_call s cells marks output).answer
  settle_shallow_ample_numbers number place e =
      settle_ample_numbers s cells marks output ample number place ((settle_shallow_refuses s cells marks output number place).0 e)

  pub make_shallow_ample_numbers : Gives table_or_tree (make_shallow_call s cells marks output).answer
  make_shallow_ample_numbers number place e =
      make_ample_numbers s cells marks output ample number place ((make_shallow_refuses s cells marks output number place).0 e)
