-- `jobs::finishing::may_finish` meets its contract: bare cells, and then whether all groups are passed. Assumes nothing.
use Rattle.std.proofs.lemmas.Result.{err_from_is_err_and}
use Rattle.std.specs.Prelude.{◌-◌}
use Rattle.laws.specs.Prelude.{ℕ, ◌∙◌, sym, ap, arith}
use Rattle.answers.specs.AnswerMaps.{outcome_as}
use Rattle.jobs.specs.Forms.{front_size}
use Rattle.jobs.specs.Finishing.{may_not, may_not_yet, may_now}
use Rattle.jobs.proofs.finishing.may_finish.Goals as goal

pub power-groups-requires : goal.power-groups-requires
power-groups-requires c =
    (omega arith, omega (arith, (front_size _ _ c.requires).inputs_most))

pub returns-then-passed-groups : goal.returns-then-passed-groups
returns-then-passed-groups c = λ marks.
    may_not_yet _ _ c.requires _ _ (sym (ap (outcome_as tt) c.in_ok-full_cells.was) ∙ c.full_cells.ensures) _
    (ap (λ (k : ℕ). k - 1) c.power-groups.ensures) marks c.if-passed-groups.true

pub returns-in_err-full_cells : goal.returns-in_err-full_cells
returns-in_err-full_cells c =
    let p = err_from_is_err_and c.from_residual.result c.from_residual.ensures.1 in
    rw (p.1, p.2) (λ marks. may_not _ _ c.requires _ _ _ _ (sym (ap (outcome_as tt) c.in_err-full_cells.was) ∙ c.full_cells.ensures) marks)

pub returns : goal.returns
returns c = λ marks.
    may_now _ _ c.requires _ _ (sym (ap (outcome_as tt) c.in_ok-full_cells.was) ∙ c.full_cells.ensures) _
    (ap (λ (k : ℕ). k - 1) c.power-groups.ensures) marks c.if-passed-groups.false
