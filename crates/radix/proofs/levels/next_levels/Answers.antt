-- `radix::levels::next_levels` meets its contract. The loop's invariant: stepping the first i levels from here gives what stepping the
-- first n gives at the start. Assumes nothing.
use Rattle.laws.specs.Prelude.{◌∙◌, sym, arith}
use Rattle.radix.proofs.Stepping.{step_none, step_up, step_turn}
use Rattle.radix.proofs.levels.next_levels.Goals as goal

pub returns-then-l-m : goal.returns-then-l-m
returns-then-l-m c = step_up _ c.loop-i.i c.loop-i.levels (omega arith) (omega arith) (omega arith) ∙ c.loop-i.invariant

pub loop-i-preserved : goal.loop-i-preserved
loop-i-preserved c = step_turn _ c.loop-i.i c.loop-i.levels (omega arith) (omega arith) (omega arith) ∙ c.loop-i.invariant

pub returns : goal.returns
returns c = sym (step_none _ c.loop-i.i c.loop-i.levels (omega arith)) ∙ c.loop-i.invariant
