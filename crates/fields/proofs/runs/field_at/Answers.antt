-- `fields::runs::field_at` meets its contract: the bytes up to the field's end are the field.
-- Assumes nothing.
use Rattle.laws.specs.Prelude.{le_of_lt, rules}
use Rattle.laws.specs.Lists.Runs.{field_end}
use Rattle.fields.specs.Runs.{ends_within, field_part, field_none}
use Rattle.fields.proofs.runs.field_at.Goals as goal

pub returns-then-s-at : goal.returns-then-s-at
returns-then-s-at c = field_none _ _ (le_of_lt c.if-s-at.true)

pub slice_bounds-result-count : goal.slice_bounds-result-count
unfolding field_end
slice_bounds-result-count c = search rules

pub slice_bounds-result-start : goal.slice_bounds-result-start
unfolding field_end
slice_bounds-result-start c = search rules

pub returns : goal.returns
returns c = rw c.field_end-end.ensures (field_part _ _)

pub slice_bounds-result-end-2 : goal.slice_bounds-result-end-2
slice_bounds-result-end-2 c = rw c.field_end-end.ensures (ends_within _ _ c.if-s-at.false)
