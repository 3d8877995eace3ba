-- `capi::job_step::sitgurp_job_step_parts` meets its contract: the parts unchanged, or with the next group's mark. Assumes nothing.
use Rattle.laws.specs.Prelude.{subst, arith}
use Rattle.jobs.specs.Forms.{job_in}
use Rattle.jobs.specs.Stepping.{NextMark}
use Rattle.capi.specs.JobStep.{next_room, flat_step_done, flat_step_on}
use Rattle.capi.proofs.job_step.sitgurp_job_step_parts.Goals as goal

pub overflow_add-g : goal.overflow_add-g
overflow_add-g c =
    let a = c.args in
    omega (
      arith,
      next_room a.lines.now a.cells.now a.marks.now a.passed.now _
          (subst (NextMark (job_in a.lines.now a.cells.now a.marks.now a.passed.now)) c.in-Some.is
          c.next_mark-found.ensures),
    )

pub bounds-marks-g : goal.bounds-marks-g
bounds-marks-g c =
    let a = c.args in
    omega (
      arith,
      next_room a.lines.now a.cells.now a.marks.now a.passed.now _
          (subst (NextMark (job_in a.lines.now a.cells.now a.marks.now a.passed.now)) c.in-Some.is
          c.next_mark-found.ensures),
    )

pub returns-in-None : goal.returns-in-None
returns-in-None c =
    let a = c.args in
    rw c.number.ensures
    (flat_step_done a.lines.now a.cells.now a.marks.now a.passed.now
    (subst (NextMark (job_in a.lines.now a.cells.now a.marks.now a.passed.now)) c.in-None.is c.next_mark-found.ensures))

pub returns-in-Some : goal.returns-in-Some
returns-in-Some c =
    let a = c.args in
    flat_step_on a.lines.now a.cells.now a.marks.now a.passed.now _
    (subst (NextMark (job_in a.lines.now a.cells.now a.marks.now a.passed.now)) c.in-Some.is c.next_mark-found.ensures)
