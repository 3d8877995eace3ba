-- `jobs::opening::open` meets its contract: the empty job if the sheet is refused, else a new job on the table. Assumes nothing.
use Rattle.laws.specs.Prelude.{◌∙◌, sym, ap, arith}
use Rattle.rules.specs.Calls.Answers.{accepted}
use Rattle.accepted.specs.Taken.{held_size, full_taken, read_full_refused, inks_given, inks_table}
use Rattle.jobs.specs.Calls.{opened_none, opened_new}
use Rattle.jobs.proofs.opening.open.Goals as goal

pub power-count-requires : goal.power-count-requires
power-count-requires c =
    let size = held_size _ _ (c.read_full.ensures.held _ c.in-Ok.is).header in
    (omega (arith, size.levels_most), omega (arith, size.inputs_most))

pub slice_bounds-new_job-end : goal.slice_bounds-new_job-end
slice_bounds-new_job-end c =
    omega (arith, c.power-count.ensures, (held_size _ _ (c.read_full.ensures.held _ c.in-Ok.is).header).cells_most, c.read_full.auto)

pub new_job-requires : goal.new_job-requires
new_job-requires c =
    inks_given _ _ _ _ c.power-count.ensures (full_taken _ _ _ c.read_full.ensures _ c.in-Ok.is)

pub returns-in-Err : goal.returns-in-Err
returns-in-Err c =
    opened_none _ _ c.no_job.ensures _ (read_full_refused _ _ _ c.read_full.ensures _ c.in-Err.is)

pub returns-in-Ok : goal.returns-in-Ok
returns-in-Ok c =
    let taken = full_taken _ _ _ c.read_full.ensures _ c.in-Ok.is in
    opened_new _ _ _ c.new_job.ensures (taken.reads ∙ ap accepted (sym (inks_table _ _ _ _ c.power-count.ensures)))
