-- `glyphs::offsets::starts_of` meets its contract. The loop's invariant: the first i inputs have their starts. Assumes nothing.
use Rattle.glyphs.specs.Offsets.{StartsAt}
use Rattle.glyphs.proofs.offsets.starts_of.Given as goal

abbrev pub invariant-loop-i : goal.invariant-loop-i
invariant-loop-i l = StartsAt l.offsets l.span l.y l.i l.starts
