-- `glyphs::print::print_glyph` meets its contract: a small picture has room for all rows, and so has any picture with few gates; any other has room for half.
-- Assumes nothing.
use Rattle.std.specs.Prelude.{replicate}
use Rattle.laws.specs.Prelude.{arith}
use Rattle.rules.specs.Calls.Glyphs.{most_side}
use Rattle.nets.specs.Room.{most_gates}
use Rattle.glyphs.specs.Strips.{few_side, gates_most, HalvesReady, halves_ready}
use Rattle.glyphs.proofs.print.print_glyph.Goals as goal
use Rattle.glyphs.proofs.print.print_glyph.Goals.{then-net-le-FEW_GATES, else-net-le-FEW_GATES}

pub print_in-requires : goal.print_in-requires
print_in-requires c = record {
  ready = c.requires;
  room = (
    halves_ready _ _ _ _ (omega arith) (omega arith) most_gates few_side (gates_most _ c.requires.sound) (omega arith) few_side 197 (omega arith)
        (omega arith),
    omega arith,
  );
}

pub print_in-requires-2 : goal.print_in-requires-2
print_in-requires-2 c =
    let is = c.requires.picture_is in
    let a = c.args in
    let room : HalvesReady a.net a.width a.height c.if-net-le-FEW_GATES.top (replicate 30804 0) = elim c.if-net-le-FEW_GATES.branch [
      | then-net-le-FEW_GATES w ↦
          halves_ready _ _ _ _ (omega arith) (omega arith) 6 most_side w.if-net-le-FEW_GATES.true (omega (arith, is.along.most)) most_side 453
          is.across.most (omega (arith, is.along.most))
      | else-net-le-FEW_GATES w ↦
          halves_ready _ _ _ _ (omega arith) (omega arith) most_gates 32 (gates_most _ c.requires.sound) (omega (arith, is.along.most)) most_side
          453 is.across.most (omega (arith, is.along.most))
    ] in
    record { ready = c.requires; room = (room, omega arith) }
