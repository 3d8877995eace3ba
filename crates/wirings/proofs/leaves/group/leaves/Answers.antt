-- `wirings::leaves::group::leaves` meets its contract: the inputs that matter, and others up to two. Assumes nothing.
use Rattle.std.specs.Prelude.{◌<◌, ◌-◌, ◌^◌, ◌≡◌}
use Rattle.laws.specs.Prelude.{arith}
use Rattle.rules.specs.Groups.Groups.{others, size}
use Rattle.trees.specs.Groups.Members.{others_below}
use Rattle.radix.specs.Fronts.{rest_others}
use Rattle.wirings.specs.Leaves.Chosen.{leaves_enough, leaves_first, leaves_other}
use Rattle.wirings.proofs.leaves.group.leaves.Goals as goal

pub returns-then-members_of-ge2 : goal.returns-then-members_of-ge2
returns-then-members_of-ge2 c m f group =
    let used : c.power.result - 1 - c.args.idle ≡ others c.args.n c.args.idle = rest_others c.args.n c.args.idle c.power.result c.power.ensures in
    let used_below : c.power.result - 1 - c.args.idle < 2 ^ c.args.n = omega (arith, used, others_below c.args.n c.args.idle) in
    let counted : c.members_of.result ≡ size c.args.n (c.power.result - 1 - c.args.idle) = c.members_of.ensures c.args.n used_below in
    leaves_enough _ _ m f group _ used (omega (arith, counted, c.if-members_of-ge2.true))

pub returns-then-mattering-le1 : goal.returns-then-mattering-le1
returns-then-mattering-le1 c m f group =
    let used : c.power.result - 1 - c.args.idle ≡ others c.args.n c.args.idle = rest_others c.args.n c.args.idle c.power.result c.power.ensures in
    leaves_first _ _ m f group _ used c.requires.0 c.if-mattering-le1.true

pub returns : goal.returns
returns c m f group =
    let used : c.power.result - 1 - c.args.idle ≡ others c.args.n c.args.idle = rest_others c.args.n c.args.idle c.power.result c.power.ensures in
    let used_below : c.power.result - 1 - c.args.idle < 2 ^ c.args.n = omega (arith, used, others_below c.args.n c.args.idle) in
    let counted : c.members_of.result ≡ size c.args.n (c.power.result - 1 - c.args.idle) = c.members_of.ensures c.args.n used_below in
    leaves_other _ _ m f group _ used c.requires.0 (omega (arith, c.if-mattering-le1.false)) (omega (arith, counted, c.if-members_of-ge2.false))
