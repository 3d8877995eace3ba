-- `fields::header::same::same_header` meets its contract: levels, inputs, then the names.
-- Assumes nothing.
use mathlib.Core.Path.{◌∙◌}
use Rattle.laws.specs.Numbers.Sizes.{sized}
use Rattle.fields.specs.Header.Same.{levels_differ, inputs_differ, by_names}
use Rattle.fields.proofs.header.same.same_header.Goals as goal

pub returns-then-h-k : goal.returns-then-h-k
returns-then-h-k c = levels_differ _ _ _ _ c.if-h-k.true

pub returns-then-h-k-2 : goal.returns-then-h-k-2
returns-then-h-k-2 c = inputs_differ _ _ _ _ c.if-h-k.false c.if-h-k-2.true

pub same_names-requires : goal.same_names-requires
same_names-requires c =
    let h = c.args.h in
    ((sized h.levels h.inputs c.requires.0.fits).inputs_most, c.requires.0.names, rw c.if-h-k-2.false c.requires.1.names)

pub returns : goal.returns
returns c = c.same_names.ensures ∙ by_names _ _ _ _ c.if-h-k.false c.if-h-k-2.false
