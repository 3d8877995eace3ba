-- `keeping::keep::keep` meets its contract: the refusals of reading both sheets, then 27, then the result for a full table. Assumes nothing.
use Rattle.std.proofs.lemmas.Result.{err_from_is_err_and}
use Rattle.laws.specs.Prelude.{◌∙◌, sym, ap, arith}
use Rattle.answers.specs.AnswerMaps.{outcome_as}
use Rattle.accepted.specs.Taken.{held_size}
use Rattle.accepted.specs.Both.{both_long}
use Rattle.keeping.specs.Judging.{keep_refused, inks_within, table_open, both_given, full_told}
use Rattle.keeping.proofs.keep.keep.Goals as goal

pub returns-in_err-read : goal.returns-in_err-read
returns-in_err-read c =
    let p = err_from_is_err_and c.from_residual.result c.from_residual.ensures.1 in
    rw (p.1, p.2) (keep_refused _ _ _ _ _ _ c.read_both.ensures _ c.in_err-read.was)

pub power-count-requires : goal.power-count-requires
power-count-requires c =
    let size = held_size _ _ (c.read_both.ensures.held _ c.in_ok-read.was).own.header in
    (size.levels_most, omega (arith, size.inputs_most))

pub slice_bounds-table-end : goal.slice_bounds-table-end
slice_bounds-table-end c =
    omega (arith, both_long _ _ _ _ _ (c.read_both.ensures.held _ c.in_ok-read.was) _ c.power-count.ensures)

pub judge_full-requires : goal.judge_full-requires
judge_full-requires c =
    let taken = c.read_both.ensures.held _ c.in_ok-read.was in
    ((held_size _ _ taken.own.header).levels_most, inks_within _ _ _ _ _ taken _ c.power-count.ensures)

pub keep_full-requires : goal.keep_full-requires
keep_full-requires c =
    let taken = c.read_both.ensures.held _ c.in_ok-read.was in
    (taken.own, both_given _ _ _ _ _ taken _ c.power-count.ensures (sym (ap (outcome_as tt) c.in-Ok.is) ∙ c.judge_full.ensures))

pub returns-in-Err : goal.returns-in-Err
returns-in-Err c =
    table_open _ _ _ _ _ _ c.read_both.ensures _ c.in_ok-read.was _ c.power-count.ensures _
    (sym (ap (outcome_as tt) c.in-Err.is) ∙ c.judge_full.ensures)

pub returns-in-Ok : goal.returns-in-Ok
returns-in-Ok c =
    full_told _ _ _ _ _ _ c.read_both.ensures _ c.in_ok-read.was _ c.power-count.ensures
    (sym (ap (outcome_as tt) c.in-Ok.is) ∙ c.judge_full.ensures) _ c.keep_full.ensures
