-- `net_sheets::printer::net::print_wire` meets its contract: the text of a reference is a name or a number.
-- Assumes nothing.
use Rattle.rules.specs.Text.{space}
use Rattle.net_sheets.specs.Printer.Gates.{reference_name, reference_gate}
use Rattle.net_sheets.proofs.printer.net.print_wire.Goals as goal

pub print_name-requires : goal.print_name-requires
unfolding space
print_name-requires c =
    let small = c.if-r-inputs.true in
    (c.requires.0, small, rw (reference_name c.args.s.now c.args.h c.args.r small) at c.requires.1)

pub returns-then-r-inputs : goal.returns-then-r-inputs
unfolding space
returns-then-r-inputs c =
    rw (reference_name c.args.s.now c.args.h c.args.r c.if-r-inputs.true) c.print_name.ensures

pub print_decimal-requires : goal.print_decimal-requires
unfolding space
print_decimal-requires c =
    rw (reference_gate c.args.s.now c.args.h c.args.r c.if-r-inputs.false) at c.requires.1

pub returns : goal.returns
unfolding space
returns c =
    rw (reference_gate c.args.s.now c.args.h c.args.r c.if-r-inputs.false) c.print_decimal.ensures
