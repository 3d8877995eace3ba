-- `table_printer::write::write_accepted` meets its contract: the sheet's length, the net's table, then the sheet.
-- Assumes nothing.
use Rattle.laws.specs.Prelude.{arith}
use Rattle.accepted.specs.Taken.{held_size, sound, own_most, front_given}
use Rattle.table_printer.specs.Tables.{table_inside}
use Rattle.table_printer.specs.Writing.{table_output_short, output_long, table_output_written}
use Rattle.table_printer.proofs.write.write_accepted.Goals as goal

pub power-count-requires : goal.power-count-requires
power-count-requires c =
    let size = held_size _ _ c.requires.header in
    (size.levels_most, omega (arith, size.inputs_most))

pub table_length-need-requires : goal.table_length-need-requires
table_length-need-requires c =
    let size = held_size _ _ c.requires.header in
    (size.inputs_most, omega (arith, size.cells_most, c.power-count.ensures))

pub returns-then-out-need : goal.returns-then-out-need
returns-then-out-need c =
    table_output_short _ _ _ c.requires _ _ c.power-count.ensures c.table_length-need.ensures _ c.if-out-need.true

pub table-requires : goal.table-requires
table-requires c =
    let taken = c.requires in
    (sound _ _ _ taken, own_most _ _ _ taken)

pub slice_bounds-print_table-end : goal.slice_bounds-print_table-end
slice_bounds-print_table-end c = omega (
  arith,
  (held_size _ _ c.requires.header).cells_most,
  c.power-count.ensures,
)

pub print_table-requires : goal.print_table-requires
print_table-requires c =
    let count = c.power-count.ensures in
    let did = c.table.ensures in (
      table_inside _ _ _ (front_given _ _ _ c.requires _ _ _ _ did count),
      output_long _ _ _ c.requires _ _ count c.table_length-need.ensures c.args.out.now
          c.if-out-need.false _ _ _ did,
    )

pub returns : goal.returns
returns c =
    table_output_written _ _ _ c.requires _ _ c.power-count.ensures c.table_length-need.ensures c.args.out.now
    c.if-out-need.false _ _ _
    c.table.ensures _ _ c.print_table.ensures
