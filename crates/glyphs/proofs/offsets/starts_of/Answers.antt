-- `glyphs::offsets::starts_of` meets its contract. The loop's invariant: the first i inputs have their starts. Assumes nothing.
use Rattle.std.specs.Prelude.{◌≤◌, ◌+◌, ◌*◌, ◌≡◌}
use Rattle.laws.specs.Prelude.{ℕ, ◌∙◌, ap, refl, ap₂, mul-le-mul, arith}
use Rattle.rules.specs.Calls.Glyphs.{most_side, across, down}
use Rattle.glyphs.specs.Offsets.{near_read, most_span, reach, across_there, down_there, across_small, down_small, glyph_starts_more}
use Rattle.glyphs.proofs.offsets.starts_of.Goals as goal

pub loop-i-init : goal.loop-i-init
loop-i-init c = record { room = refl; each = λ j h. absurd (omega arith) }

pub bounds-offsets-i : goal.bounds-offsets-i
bounds-offsets-i c = across_there _ _ c.requires.1 _ c.loop-i-test.true

pub bounds-offsets-i-in-loop-i : goal.bounds-offsets-i-in-loop-i
bounds-offsets-i-in-loop-i c = down_there _ _ c.requires.1 _ c.loop-i-test.true

pub reach_of-down-requires : goal.reach_of-down-requires
unfolding down
reach_of-down-requires c =
    let small = down_small _ _ c.requires.1 _ c.loop-i-test.true in
    rw (near_read _ small) small

pub reach_of-across-requires : goal.reach_of-across-requires
unfolding across
reach_of-across-requires c =
    let small = across_small _ _ c.requires.1 _ c.loop-i-test.true in
    rw (near_read _ small) small

pub loop-i-preserved : goal.loop-i-preserved
unfolding down across
loop-i-preserved c =
    let a = c.args in
    let first : c.reach_of-down.result ≡ reach (down a.offsets.now c.loop-i.i) =
    c.reach_of-down.ensures.is ∙ ap reach (near_read _ (down_small _ _ c.requires.1 _ c.loop-i-test.true)) in
    let second : c.reach_of-across.result ≡ reach (across a.offsets.now c.loop-i.i) =
    c.reach_of-across.ensures.is ∙ ap reach (near_read _ (across_small _ _ c.requires.1 _ c.loop-i-test.true)) in
    glyph_starts_more a.offsets.now a.span a.y c.loop-i.i c.loop-i.starts c.loop-i.invariant (omega arith) _
    (ap₂ (λ (d x : ℕ). (a.y + d) * a.span + x) first second)

-- a start is in a frame of most_side + 4 rows
start_small : (y d span : ℕ) → y ≤ most_side → d ≤ 4 → span ≤ most_span → (y + d) * span ≤ 68 * most_span
start_small y d span few near wide = let low : y + d ≤ 68 = omega arith in mul-le-mul low wide

pub overflow_mul-starts : goal.overflow_mul-starts
overflow_mul-starts c = omega (arith, start_small _ _ _ c.requires.3 c.reach_of-down.ensures.small c.requires.2)

pub overflow_add-starts-in-loop-i : goal.overflow_add-starts-in-loop-i
overflow_add-starts-in-loop-i c =
    omega (arith, start_small _ _ _ c.requires.3 c.reach_of-down.ensures.small c.requires.2, c.reach_of-across.ensures.small)
