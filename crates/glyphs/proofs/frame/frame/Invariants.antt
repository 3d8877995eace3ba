-- `glyphs::frame::frame` meets its contract. The loop's invariant: the first y rows are in the frame. Assumes nothing.
use Rattle.std.specs.Prelude.{◌+◌, ◌≡◌}
use Rattle.laws.specs.Prelude.{length}
use Rattle.glyphs.specs.Frames.{GlyphFraming}
use Rattle.glyphs.proofs.frame.frame.Given as goal

abbrev pub invariant-loop-y : goal.invariant-loop-y
invariant-loop-y l = (length l.wires ≡ length l.initial.wires) × GlyphFraming l.width l.height l.picture (l.y + 2) l.wires
