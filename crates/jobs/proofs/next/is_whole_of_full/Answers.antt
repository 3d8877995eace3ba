-- `jobs::next::is_whole_of_full` meets its contract. Assumes nothing.
use Rattle.laws.specs.Prelude.{arith, length, eqb-true}
use Rattle.laws.specs.Numbers.Sizes.{sized}
use Rattle.jobs.specs.Stepping.{whole_group_lem}
use Rattle.jobs.proofs.next.is_whole_of_full.Goals as goal

pub returns-then-power-g : goal.returns-then-power-g
returns-then-power-g c e = (
  whole_group_lem c.args.n c.power.result c.power.ensures c.args.g c.if-power-g.true,
  λ p h. c.first_at_least.ensures.below p (omega (arith, eqb-true c.first_at_least.result (length c.args.inks.now) e, c.requires.1)),
)

pub power-requires : goal.power-requires
power-requires c = (omega arith, omega (arith, (sized _ _ c.requires.0).inputs_most))

pub first_at_least-requires : goal.first_at_least-requires
first_at_least-requires c = omega (arith, (sized _ _ c.requires.0).levels_most)
