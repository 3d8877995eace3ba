-- A step of a job as the call for C returns it: two numbers, the marks and how many groups have been passed.
-- Assumes nothing.
use Rattle.std.specs.Prelude.{◌<◌, ◌+◌, ◌≡◌, Some, None}
use Rattle.laws.specs.Prelude.{ℕ, ◌∙◌, sym, ap, List, set}
use Rattle.rules.specs.Calls.Answers.{written}
use Rattle.rules.specs.Calls.Jobs.{Job, further, Stepped, step_job}
use Rattle.laws.specs.Calls.Jobs.{step_done, step_on}
use Rattle.jobs.specs.Forms.{most_groups, job_in}
use Rattle.jobs.specs.Stepping.{NextMark, marks_same, marks_further, job_further}
use Rattle.capi.specs.declared.numbers.flat.SitgurpAnswer.{SitgurpAnswer}
use Rattle.capi.specs.Numbers.Done.{flat_done}

pub record FlatStepped (lines cells marks : List ℕ) (passed : ℕ) (r : SitgurpAnswer) (marks_after : List ℕ) (passed_after : ℕ) : Type 0 where
  pub answer : r ≡ flat_done (step_job (job_in lines cells marks passed)).answer
  pub marks_then : marks_after ≡ written marks (step_job (job_in lines cells marks passed)).job.marks
  pub passed_then : passed_after ≡ (step_job (job_in lines cells marks passed)).job.passed
  -- the job that these bytes are
  pub stands : job_in lines cells marks_after passed_after ≡ (step_job (job_in lines cells marks passed)).job

module _ (lines cells marks : List ℕ) (passed : ℕ) where
  abbrev job : Job
  job = job_in lines cells marks passed

  -- there is room for the next mark
  pub next_room : (mark : ℕ) → NextMark job (Some mark) → passed + 1 < most_groups
  unfolding job_in
  next_room mark (on, room, is) = room

  pub flat_step_done : NextMark job None → FlatStepped lines cells marks passed (record { number = 21; value = 0 }) marks passed
  unfolding job_in
  flat_step_done h =
      let e = step_done job h in
      record {
        answer = sym (ap (λ (s : Stepped). flat_done s.answer) e);
        marks_then = marks_same lines cells marks passed ∙ sym (ap (λ (s : Stepped). written marks s.job.marks) e);
        passed_then = sym (ap (λ (s : Stepped). s.job.passed) e);
        stands = sym (ap (λ (s : Stepped). s.job) e);
      }

  pub flat_step_on : (mark : ℕ) → NextMark job (Some mark)
      → FlatStepped lines cells marks passed (record { number = 0; value = 0 }) (set marks (passed + 1) mark) (passed + 1)
  unfolding job_in further
  flat_step_on mark (h, room, is) =
      let e = step_on job h in
      record {
        answer = sym (ap (λ (s : Stepped). flat_done s.answer) e);
        marks_then = marks_further lines cells marks passed h mark is ∙ sym (ap (λ (s : Stepped). written marks s.job.marks) e);
        passed_then = sym (ap (λ (s : Stepped). s.job.passed) e);
        stands = job_further lines cells marks passed h mark is ∙ sym (ap (λ (s : Stepped). s.job) e);
      }
