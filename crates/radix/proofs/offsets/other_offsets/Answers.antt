-- `radix::offsets::other_offsets` meets its contract: the number passed on is that of the other inputs' group. Assumes nothing.
use Rattle.laws.specs.Prelude.{ℕ, subst, le_trans, pow-le-pow_right}
use Rattle.rules.specs.Groups.Groups.{points}
use Rattle.trees.specs.Groups.Members.{size_le}
use Rattle.radix.specs.Fronts.{Front, rest_others}
use Rattle.radix.proofs.offsets.other_offsets.Goals as goal

pub offsets-requires : goal.offsets-requires
offsets-requires c =
    let (pos, inputs, small, room, _) = c.requires in
    (pos, inputs, small, le_trans (pow-le-pow_right pos (size_le c.args.n _)) room)

pub returns : goal.returns
returns c =
    let a = c.args in
    let called = c.offsets in
    subst (λ (h : ℕ). Front (points a.m a.n h) called.result called.new.out)
    (rest_others a.n a.g _ c.power.ensures) called.ensures
