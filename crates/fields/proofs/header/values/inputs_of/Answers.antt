-- `fields::header::values::inputs_of` meets its contract. The loop's invariant: the first match from `n` on is the first of all.
-- Assumes nothing.
use Rattle.std.specs.Prelude.{◌+◌}
use Rattle.laws.specs.Prelude.{◌∙◌, sym, refl, arith}
use Rattle.rules.specs.Limits.{most_inputs}
use Rattle.rules.specs.Sheets.Sheets.{inputs_of}
use Rattle.laws.specs.Lists.Walks.{find_next, find_stop, find_end}
use Rattle.fields.proofs.header.values.inputs_of.Goals as goal

pub loop-n-init : goal.loop-n-init
unfolding inputs_of
loop-n-init c = refl

pub returns-then-is_decimal : goal.returns-then-is_decimal
returns-then-is_decimal c =
    sym (find_stop _ c.loop-n.n (most_inputs + 1) (omega arith) (sym c.is_decimal.ensures ∙ c.if-is_decimal.true)) ∙ c.loop-n.invariant

pub loop-n-preserved : goal.loop-n-preserved
loop-n-preserved c =
    find_next _ c.loop-n.n (most_inputs + 1) (omega arith) (sym c.is_decimal.ensures ∙ c.if-is_decimal.false) ∙ c.loop-n.invariant

pub returns : goal.returns
returns c = sym (find_end _ c.loop-n.n (most_inputs + 1) (omega arith)) ∙ c.loop-n.invariant
