-- `glyphs::print::print_halves` meets its contract: the framed picture, its first rows, then the others. Assumes nothing.
use Rattle.laws.specs.Prelude.{arith, refl}
use Rattle.glyphs.specs.Strips.{half_ready, still_framed, first_length, all_at_once, both_halves}
use Rattle.glyphs.proofs.print.print_halves.Goals as goal

pub print_strip-requires : goal.print_strip-requires
print_strip-requires c =
    let (glyph, halves) = c.requires in
    half_ready glyph halves _ c.frame.auto.wires c.frame.ensures 0 _ (omega (arith, halves.low)) (omega arith) _ refl

pub returns-then-top-height : goal.returns-then-top-height
returns-then-top-height c =
    let (glyph, halves) = c.requires in
    all_at_once glyph halves _ c.frame.auto.wires c.frame.ensures c.print_strip.ensures c.if-top-height.true

pub print_strip-requires-2 : goal.print_strip-requires-2
print_strip-requires-2 c =
    let (glyph, halves) = c.requires in
    let same = c.frame.auto.wires in
    let did = c.print_strip.ensures in
    half_ready glyph halves _ (omega (arith, did.same, same)) (still_framed glyph halves _ same c.frame.ensures did) _ _
    (omega (arith, halves.low)) halves.half _ (first_length glyph halves _ same c.frame.ensures did)

pub returns : goal.returns
returns c =
    let (glyph, halves) = c.requires in
    both_halves glyph halves _ c.frame.auto.wires c.frame.ensures c.print_strip.ensures c.print_strip-2.ensures
