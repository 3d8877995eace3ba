-- `classes::counting::group_offsets` meets its contract. Assumes nothing.
use Rattle.std.specs.Prelude.{◌≤◌, ◌-◌, ◌^◌, ◌≡◌}
use Rattle.laws.specs.Prelude.{ℕ, subst, subst⁻¹, length}
use Rattle.rules.specs.Groups.Groups.{size, others, points}
use Rattle.radix.specs.Fronts.{Front, rest_others}
use Rattle.classes.proofs.counting.group_offsets.Goals as goal

pub offsets-other-requires : goal.offsets-other-requires
offsets-other-requires c =
    let is_others : let a = c.args in c.power.result - 1 - a.g ≡ others a.n a.g = let a = c.args in rest_others a.n a.g c.power.result c.power.ensures in
    let room = c.requires.0 in (
      room.some,
      room.inputs,
      room.small,
      subst⁻¹ (λ (h : ℕ). c.args.m ^ size c.args.n h ≤ length c.args.ys.now) is_others room.for_ys,
    )

pub returns : goal.returns
returns c =
    let is_others : let a = c.args in c.power.result - 1 - a.g ≡ others a.n a.g = let a = c.args in rest_others a.n a.g c.power.result c.power.ensures in
    let a = c.args in (
      c.offsets-own.ensures,
      subst (λ (h : ℕ). Front (points a.m a.n h) c.offsets-other.result c.offsets-other.new.out) is_others c.offsets-other.ensures,
    )
