-- `keeping::filled::keep_full` meets its contract: 13, or the result of filling the wiring. Assumes nothing.
use Rattle.laws.specs.Prelude.{◌∙◌}
use Rattle.keeping.specs.Rewriting.{full_short, full_long}
use Rattle.keeping.proofs.filled.keep_full.Goals as goal

pub returns-then-cells-inks : goal.returns-then-cells-inks
returns-then-cells-inks c = full_short _ _ _ _ c.if-cells-inks.true

pub returns : goal.returns
returns c =
    c.keep_filled.ensures ∙ full_long _ _ _ _ c.if-cells-inks.false
