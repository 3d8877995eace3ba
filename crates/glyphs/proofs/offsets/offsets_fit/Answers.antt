-- `glyphs::offsets::offsets_fit` meets its contract: the right number of offsets, and each near. Assumes nothing.
use Rattle.laws.specs.Prelude.{◌∙◌, eq-eqb, ne_eqb}
use Rattle.rules.specs.Calls.Glyphs.{offsets_fit}
use Rattle.glyphs.proofs.offsets.offsets_fit.Goals as goal

pub returns-then-offsets-n : goal.returns-then-offsets-n
unfolding offsets_fit
returns-then-offsets-n c = c.all_near.ensures ∙ rw (eq-eqb _ _ c.if-offsets-n.true)

pub returns-else-offsets-n : goal.returns-else-offsets-n
unfolding offsets_fit
returns-else-offsets-n c = rw (ne_eqb _ _ c.if-offsets-n.false)
