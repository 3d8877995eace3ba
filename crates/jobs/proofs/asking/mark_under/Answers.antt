-- `jobs::asking::mark_under` meets its contract, at each test. Assumes nothing.
use native.Mathlib.Omega.{arith}
use Rattle.jobs.specs.Forms.{front_size, front_groups}
use Rattle.jobs.specs.Asking.{asked_empty, asked_over, not_reached_answer, reached_answer}
use Rattle.jobs.proofs.asking.mark_under.Goals as goal
use Rattle.jobs.proofs.asking.mark_under.Goals.{then-group-eq0-via-then-group-eq0, then-group-eq0-via-else-group-eq0+then-power-group}

pub returns-then-group-eq0 : goal.returns-then-group-eq0
returns-then-group-eq0 c =
    elim c.then-group-eq0.branch [
      | then-group-eq0-via-then-group-eq0 w ↦ λ cells. asked_empty _ _ c.requires.0 _ _ _ cells w.if-group-eq0.true
      | then-group-eq0-via-else-group-eq0+then-power-group w ↦
          λ cells. asked_over _ _ c.requires.0 _ _ _ cells (omega (arith, w.power.ensures, w.if-power-group.true))
    ]

pub power-requires : goal.power-requires
power-requires c = (omega arith, omega (arith, (front_size _ _ c.requires.0).inputs_most))

pub returns-then-passed-group : goal.returns-then-passed-group
returns-then-passed-group c =
    λ cells. not_reached_answer _ _ c.requires.0 _ _ _ cells c.if-group-eq0.false
    (omega (arith, c.power.ensures, c.if-power-group.false)) c.if-passed-group.true

pub bounds-marks-group : goal.bounds-marks-group
bounds-marks-group c =
    omega (arith, c.power.ensures, c.if-power-group.false, front_groups _ _ c.requires.0, c.requires.1)

pub returns : goal.returns
returns c =
    λ cells. reached_answer _ _ c.requires.0 _ _ _ cells c.if-group-eq0.false
    (omega (arith, c.power.ensures, c.if-power-group.false)) c.if-passed-group.false
