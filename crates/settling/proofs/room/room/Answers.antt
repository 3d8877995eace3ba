-- `settling::room::room` meets its contract. Assumes nothing.
use native.Mathlib.Omega.{arith}
use Rattle.laws.specs.Numbers.Sizes.{sized}
use Rattle.settling.specs.Room.{settling_cells_short, settling_marks_short, both_fit}
use Rattle.settling.proofs.room.room.Goals as goal

pub returns-then-cells-need : goal.returns-then-cells-need
returns-then-cells-need c s = settling_cells_short s c.args.header _ c.requires.1 _ _ c.if-cells-need.true

pub marks_length-marks_need-requires : goal.marks_length-marks_need-requires
marks_length-marks_need-requires c =
    omega (arith, (sized c.args.header.levels c.args.header.inputs c.requires.0).inputs_most)

pub returns-then-marks-marks_need : goal.returns-then-marks-marks_need
returns-then-marks-marks_need c s =
    settling_marks_short s c.args.header _ c.requires.1 _ _ c.if-cells-need.false _ c.marks_length-marks_need.ensures c.if-marks-marks_need.true

pub returns : goal.returns
returns c s =
    both_fit s c.args.header _ c.requires.1 _ _ c.if-cells-need.false _ c.marks_length-marks_need.ensures c.if-marks-marks_need.false
