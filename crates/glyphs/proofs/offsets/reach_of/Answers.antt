-- `glyphs::offsets::reach_of` meets its contract, at each near offset. Assumes nothing.
use Rattle.glyphs.specs.Offsets.{reach_moved, reach_near}
use Rattle.glyphs.proofs.offsets.reach_of.Goals as goal

pub returns : goal.returns
returns c = record {
  is = reach_moved c.args.offset c.requires;
  small = rw (reach_moved c.args.offset c.requires) (reach_near c.args.offset c.requires);
}
