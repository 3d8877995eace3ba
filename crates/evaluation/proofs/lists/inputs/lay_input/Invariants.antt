-- `evaluation::lists::inputs::lay_input` meets its contract. The loop's invariant: the first l entries are written. Assumes nothing.
use Rattle.evaluation.specs.Lists.Runs.{Run}
use Rattle.evaluation.specs.Lists.Laid.{input_entry}
use Rattle.evaluation.proofs.lists.inputs.lay_input.Given as goal

abbrev pub invariant-loop-l : goal.invariant-loop-l
invariant-loop-l l = Run l.at l.l (input_entry l.weight) l.initial.lists l.lists
