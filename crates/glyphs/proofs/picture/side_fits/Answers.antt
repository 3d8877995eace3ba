-- `glyphs::picture::side_fits` meets its contract. Assumes nothing.
use Rattle.std.proofs.Common.{rules, tests}
use Rattle.rules.specs.Calls.Glyphs.{side_fits}
use Rattle.glyphs.proofs.picture.side_fits.Goals as goal

pub returns : goal.returns
unfolding side_fits
returns c = search (rules, tests)
