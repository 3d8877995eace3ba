-- `wirings::shallow_split::keeps` meets its contract: one test after the other. Assumes nothing.
use Rattle.laws.specs.Prelude.{◌∙◌, sym}
use Rattle.wirings.proofs.shallow_split.keeps.Goals as goal

-- an answer, so that an edit is refused at once
pub returns-then-both_two : goal.returns-then-both_two
returns-then-both_two c = rw (sym c.both_two.ensures ∙ c.if-both_two.true, ← c.split_layers.ensures)
