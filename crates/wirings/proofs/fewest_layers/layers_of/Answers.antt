-- `wirings::fewest_layers::layers_of` meets its contract. Assumes nothing.
use Rattle.laws.specs.Prelude.{◌∙◌, sym}
use Rattle.wirings.specs.FewestLayers.{layers_empty, layers_other, layers_two}
use Rattle.wirings.proofs.fewest_layers.layers_of.Goals as goal
use Rattle.wirings.proofs.fewest_layers.layers_of.Goals.{then-g-eq0-via-then-g-eq0, then-g-eq0-via-else-g-eq0+then-mark_at-ne2}

pub returns-then-g-eq0 : goal.returns-then-g-eq0
returns-then-g-eq0 c n g< = elim c.then-g-eq0.branch [
  | then-g-eq0-via-then-g-eq0 w ↦ layers_empty n _ _ _ w.if-g-eq0.true
  | then-g-eq0-via-else-g-eq0+then-mark_at-ne2 w ↦ layers_other n _ _ _ (λ two. w.if-mark_at-ne2.true (w.mark_at.ensures ∙ two))
]

pub returns : goal.returns
returns c n g< = c.fewest_of.ensures n g< ∙ layers_two n _ _ _ (sym c.mark_at.ensures ∙ c.if-mark_at-ne2.false)
