-- `wirings::fewest_layers::fewest_layers` meets its contract. The loop's invariant: g is a part of the leaves, those below it are known, and have room
-- for their members if `sized` says so. Assumes nothing.
use Rattle.std.specs.Prelude.{◌<◌, ◌≤◌, ◌^◌}
use Rattle.laws.specs.Prelude.{ℕ, ◌∙◌, sym, true≢false, List, arith, length, length-set, pow_mono}
use Rattle.radix.specs.Parts.{PartOf}
use Rattle.radix.specs.Widths.{most_members}
use Rattle.wirings.specs.FewestLayers.{known_small, wiring_known_next}
use Rattle.wirings.specs.Fast.Floors.{floor_under, sized_next}
use Rattle.wirings.proofs.fewest_layers.fewest_layers.Goals as goal
use Rattle.wirings.proofs.fewest_layers.fewest_layers.Goals.{then-layers-floor, else-layers-floor}

pub layers_of-layers-requires : goal.layers_of-layers-requires
layers_of-layers-requires c =
    let g : ℕ = c.loop-g.g in
    let n : ℕ = c.args.n in
    let g< : g < 2 ^ n = omega (arith, c.loop-g-test.true, c.requires.3) in
    let marks : List ℕ = c.args.marks.now in
    let part : PartOf g c.args.leaves = c.loop-g.invariant.4 c.loop-g-test.true in
    let room : (g < length marks) × (g < length c.loop-g.fewest) = (omega (arith, g<, c.requires.1), omega (arith, g<, c.requires.2, c.loop-g.invariant.1)) in
    let small : 2 ^ n ≤ 2 ^ most_members = pow_mono {i = n} {j = most_members} c.requires.0 in
    let l = c.loop-g in
    let f = c.floor_at-floor in (
      omega (arith, g<, small),
      room.0,
      omega (arith, room.1),
      floor_under marks c.args.leaves l.fewest g part l.sized l.invariant.3 f.result f.ensures,
    )

pub overflow_cast-fewest : goal.overflow_cast-fewest
overflow_cast-fewest c =
    let g : ℕ = c.loop-g.g in
    let n : ℕ = c.args.n in
    let g< : g < 2 ^ n = omega (arith, c.loop-g-test.true, c.requires.3) in
    let marks : List ℕ = c.args.marks.now in
    let part : PartOf g c.args.leaves = c.loop-g.invariant.4 c.loop-g-test.true in
    let l = c.loop-g in
    omega (
      arith,
      c.layers_of-layers.ensures n g<,
      known_small n marks c.args.leaves g l.fewest l.invariant.2 g< part,
      c.requires.0,
    )

pub loop-g-preserved : goal.loop-g-preserved
loop-g-preserved c =
    let g : ℕ = c.loop-g.g in
    let n : ℕ = c.args.n in
    let g< : g < 2 ^ n = omega (arith, c.loop-g-test.true, c.requires.3) in
    let marks : List ℕ = c.args.marks.now in
    let part : PartOf g c.args.leaves = c.loop-g.invariant.4 c.loop-g-test.true in
    let room : (g < length marks) × (g < length c.loop-g.fewest) = (omega (arith, g<, c.requires.1), omega (arith, g<, c.requires.2, c.loop-g.invariant.1)) in
    let l = c.loop-g in
    let f = c.floor_at-floor in
    let r = c.layers_of-layers in
    let after = c.part_after-g.ensures in
    let leaves = c.args.leaves in (
      after.end,
      length-set l.fewest l.g r.result ∙ l.invariant.1,
      wiring_known_next n marks leaves g l.fewest l.invariant.2 g< part room.1 r.result (r.ensures n g<) _ after,
      λ is. elim c.if-layers-floor.branch [
        | then-layers-floor w ↦ absurd (true≢false (sym is ∙ w.sized-is))
        | else-layers-floor w ↦
            sized_next marks leaves l.fewest g part l.sized l.invariant.3 f.result f.ensures room.1 r.result
            (omega (arith, w.if-layers-floor.false)) (sym w.sized-is ∙ is) _ after
      ],
      after.part,
    )
