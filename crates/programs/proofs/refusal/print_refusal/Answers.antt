-- `programs::refusal::print_refusal` meets its contract: 55 bytes suffice for every number and place.
-- Assumes nothing.
use Rattle.std.specs.Prelude.{◌≤◌}
use Rattle.laws.specs.Prelude.{arith, length}
use Rattle.rules.specs.Text.{space, newline, text}
use Rattle.rules.specs.Sheets.Printed.{line}
use Rattle.rules.specs.Calls.Programs.{refusal_lines}
use Rattle.net_sheets.specs.Text.Put.{put_wrote}
use Rattle.programs.specs.Refusals.{refusal_length}
use Rattle.programs.proofs.refusal.print_refusal.Goals as goal

pub print_pair-requires : goal.print_pair-requires
unfolding line text space newline
print_pair-requires c =
    let room : length (refusal_lines c.args.number c.args.place) ≤ length c.args.out.now = omega (arith, c.requires, refusal_length c.args.number c.args.place c.ranges.number.fits c.ranges.place.fits) in
    omega (arith, room)

pub returns : goal.returns
unfolding line text space newline
returns c =
    let room : length (refusal_lines c.args.number c.args.place) ≤ length c.args.out.now = omega (arith, c.requires, refusal_length c.args.number c.args.place c.ranges.number.fits c.ranges.place.fits) in
    put_wrote room c.print_pair.ensures
