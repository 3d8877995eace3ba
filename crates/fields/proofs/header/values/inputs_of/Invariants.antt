-- `fields::header::values::inputs_of` meets its contract. The loop's invariant: the first match from `n` on is the first of all.
-- Assumes nothing.
use Rattle.std.specs.Prelude.{◌+◌, ◌-◌, ◌≡◌}
use Rattle.rules.specs.Lists.{range, find, same}
use Rattle.rules.specs.Limits.{most_inputs}
use Rattle.rules.specs.Text.{decimal}
use Rattle.rules.specs.Sheets.Sheets.{inputs_of}
use Rattle.fields.proofs.header.values.inputs_of.Given as goal

abbrev pub invariant-loop-n : goal.invariant-loop-n
invariant-loop-n l = find (λ k. same l.w (decimal k)) (range l.n (most_inputs + 1 - l.n)) ≡ inputs_of l.w
