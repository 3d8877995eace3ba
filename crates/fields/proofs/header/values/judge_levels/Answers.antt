-- `fields::header::values::judge_levels` meets its contract, by the field's length and byte.
-- Assumes nothing.
use Rattle.laws.specs.Prelude.{arith}
use Rattle.fields.specs.Header.Values.{levels_long, levels_low, levels_high, levels_good}
use Rattle.fields.proofs.header.values.judge_levels.Goals as goal

pub returns-then-w-ne1 : goal.returns-then-w-ne1
returns-then-w-ne1 c = levels_long _ c.if-w-ne1.true

pub returns-then-b : goal.returns-then-b
returns-then-b c = levels_low _ c.if-w-ne1.false c.if-b.true

pub returns-then-b-2 : goal.returns-then-b-2
returns-then-b-2 c = levels_high _ c.if-w-ne1.false c.if-b-2.true

pub returns : goal.returns
returns c = levels_good _ c.if-w-ne1.false c.if-b.false c.if-b-2.false

pub overflow_cast-b : goal.overflow_cast-b
overflow_cast-b c = omega (arith, c.shared_slice_known-1.given 0)
