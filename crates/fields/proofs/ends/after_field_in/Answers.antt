-- `fields::ends::after_field_in` meets its contract: the field is empty, bad or good.
-- Assumes nothing.
use Rattle.laws.specs.Prelude.{ap, arith, length, drop, length-drop}
use Rattle.laws.specs.Lists.Runs.{run_most}
use Rattle.fields.specs.Judging.{after_empty, after_bad, after_good}
use Rattle.fields.proofs.ends.after_field_in.Goals as goal

pub returns-then-w-eq0 : goal.returns-then-w-eq0
returns-then-w-eq0 c = after_empty _ _ _ _ _ _ c.requires c.if-w-eq0.true

pub overflow_add-at : goal.overflow_add-at
overflow_add-at c =
    omega (arith, ap length c.requires, run_most (drop c.args.at c.args.s.now), length-drop c.args.at c.args.s.now, c)

pub returns-in-Err : goal.returns-in-Err
returns-in-Err c = after_bad _ _ _ _ _ _ c.requires c.if-w-eq0.false _ c.in-Err.is

pub returns-in-Ok : goal.returns-in-Ok
returns-in-Ok c = after_good _ _ _ _ _ _ c.requires c.if-w-eq0.false _ c.separated_in.result
    c.in-Ok.is c.separated_in.ensures
