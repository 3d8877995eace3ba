-- Opening a job as the call for C returns it: two numbers, and every byte of the job.
-- Assumes nothing.
use Rattle.std.specs.Prelude.{◌≡◌}
use Rattle.laws.specs.Prelude.{ℕ, ◌∙◌, ap, List}
use Rattle.rules.specs.Calls.Jobs.{open_job}
use Rattle.jobs.specs.declared.job.Job.{Job}
use Rattle.jobs.specs.declared.job.Opened.{Opened}
use Rattle.jobs.specs.Forms.{job_in}
use Rattle.jobs.specs.Opening.{opened_bytes}
use Rattle.jobs.specs.Calls.{OpenDone}
use Rattle.answers.specs.AnswerMaps.{outcome_as}
use Rattle.capi.specs.declared.numbers.flat.SitgurpAnswer.{SitgurpAnswer}
use Rattle.capi.specs.Numbers.Done.{flat_done}

pub record FlatOpened (s : List ℕ) (r : SitgurpAnswer) (lines cells marks : List ℕ) (passed : ℕ) : Type 0 where
  pub answer : r ≡ flat_done (open_job s).answer
  pub lines_then : lines ≡ (opened_bytes s).lines
  pub cells_then : cells ≡ (opened_bytes s).cells
  pub marks_then : marks ≡ (opened_bytes s).marks
  pub passed_then : passed ≡ (opened_bytes s).passed
  -- the job that these bytes are
  pub stands : job_in lines cells marks passed ≡ (open_job s).job

pub flat_opened : (s : List ℕ) (opened : Opened) → OpenDone s opened → (r : SitgurpAnswer) → r ≡ flat_done (outcome_as tt opened.outcome)
    → FlatOpened s r opened.job.lines opened.job.cells opened.job.marks opened.job.passed
flat_opened s opened did r e =
    record {
      answer = e ∙ ap flat_done did.outcome;
      lines_then = ap (λ (job : Job). job.lines) did.bytes;
      cells_then = ap (λ (job : Job). job.cells) did.bytes;
      marks_then = ap (λ (job : Job). job.marks) did.bytes;
      passed_then = ap (λ (job : Job). job.passed) did.bytes;
      stands = did.job;
    }
