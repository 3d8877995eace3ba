-- `classes::multiplicity::multiplicity` meets its contract: the refusal of the bare cells, or the group's answer.
-- Assumes nothing.
use Rattle.std.proofs.lemmas.Result.{err_from_is_err_and}
use Rattle.laws.specs.Prelude.{◌∙◌}
use Rattle.laws.specs.Calls.Multiplicity.{group_answer, multiplicity_refused, multiplicity_judged}
use Rattle.classes.proofs.multiplicity.multiplicity.Goals as goal

pub returns-in_err-table : goal.returns-in_err-table
returns-in_err-table c =
    let p = err_from_is_err_and c.from_residual.result c.from_residual.ensures.1 in
    rw (p.1, p.2) (multiplicity_refused _ _ _ _ _ _ c.in_err-table.ensures.answer)

pub returns : goal.returns
returns c =
    let a = c.args in
    let told = c.full.ensures.told _ c.in_ok-table.was in
    c.group_answer.ensures
    ∙ (λ i. group_answer (told.0 i) (told.1 i) (told.2 i) a.group)
    ∙ multiplicity_judged _ _ _ _ c.in_ok-table.ensures.answer
