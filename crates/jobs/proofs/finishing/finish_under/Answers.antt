-- `jobs::finishing::finish_under` meets its contract: a refusal, or what making returns for the job's table. Assumes nothing.
use Rattle.std.proofs.lemmas.Result.{err_from_is_err_and}
use Rattle.laws.specs.Prelude.{◌∙◌, sym, ap, []}
use Rattle.answers.specs.AnswerMaps.{outcome_as}
use Rattle.jobs.specs.Finishing.{may_given, finished_not, finished_made}
use Rattle.jobs.proofs.finishing.finish_under.Goals as goal

pub make_table-requires : goal.make_table-requires
make_table-requires c =
    may_given _ _ c.requires _ c.args.passed [] (sym (ap (outcome_as tt) c.in_ok-may_finish.was) ∙ c.may_finish.ensures [])

pub returns-in_err-may_finish : goal.returns-in_err-may_finish
returns-in_err-may_finish c =
    let p = err_from_is_err_and c.from_residual.result c.from_residual.ensures.1 in
    rw (p.1, p.2)
    (λ own. finished_not _ _ c.requires _ _ own _ _ _ _ _ (sym (ap (outcome_as tt) c.in_err-may_finish.was) ∙ c.may_finish.ensures own))

pub returns : goal.returns
returns c = λ own.
    c.make_table.ensures
    ∙ finished_made _ _ c.requires _ _ own _ _ _ (sym (ap (outcome_as tt) c.in_ok-may_finish.was) ∙ c.may_finish.ensures own)
