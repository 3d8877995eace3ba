-- `fields::words::word_field_in` meets its contract: a field that is tested.
-- Assumes nothing.
use Rattle.fields.specs.Judging.{field_tested_in}
use Rattle.fields.specs.Steps.{nothing, spelled}
use Rattle.fields.proofs.words.word_field_in.Goals as goal

pub returns : goal.returns
unfolding spelled
returns c =
    field_tested_in nothing _ _ _ _ _ _ _ _ _ _ c.after_field_in.result c.field_at-w.ensures c.judged-verdict.ensures
    (rw c.same_bytes.ensures) c.after_field_in.ensures
