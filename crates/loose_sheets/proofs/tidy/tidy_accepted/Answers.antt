-- `loose_sheets::tidy::tidy_accepted` meets its contract: the cells, then the sheet.
-- Assumes nothing.
use Rattle.laws.specs.Prelude.{sym, arith}
use Rattle.accepted.specs.Taken.{held_size}
use Rattle.loose_sheets.specs.Tidying.{loose_count_most, loose_front_length, front_inside, front_itself, cells_short, cells_written}
use Rattle.loose_sheets.proofs.tidy.tidy_accepted.Goals as goal

pub power-count-requires : goal.power-count-requires
power-count-requires c =
    let size = held_size _ _ c.requires.0.header in
    (size.levels_most, omega (arith, size.inputs_most))

pub returns-then-cells-count : goal.returns-then-cells-count
returns-then-cells-count c = cells_short _ _ _ c.requires.0 _ c.power-count.ensures _ _ c.if-cells-count.true

pub slice_bounds-table-end : goal.slice_bounds-table-end
slice_bounds-table-end c = sym (loose_front_length _ _ _ c.requires.0 _ c.power-count.ensures)

pub write_sheet-requires : goal.write_sheet-requires
write_sheet-requires c =
    let (taken, itself) = c.requires in
    let is = c.power-count.ensures in (
      front_inside _ _ _ taken _ is,
      omega (arith, loose_front_length _ _ _ taken _ is, loose_count_most _ _ _ taken _ is),
      front_itself _ _ _ taken _ is c.args.strict itself,
    )

pub returns : goal.returns
returns c =
    cells_written _ _ _ c.requires.0 _ c.power-count.ensures c.args.cells.now c.args.out.now c.if-cells-count.false _ _
    c.copy.ensures c.write_sheet.result _ c.write_sheet.ensures
