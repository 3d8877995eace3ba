-- The four calls on a job by value: the job that each returns, every byte of it, what that job represents, and the answer.
-- Assumes nothing.
use Rattle.std.specs.Prelude.{◌+◌, ◌≡◌, Some, None, Ok, Err}
use Rattle.laws.specs.Prelude.{ℕ, ◌∙◌, sym, ap, List}
use Rattle.rules.specs.Sheets.Sheets.{Table}
use Rattle.rules.specs.Calls.Answers.{accepted}
use Rattle.rules.specs.Calls.OpenCells.{read_full}
use Rattle.rules.specs.Calls.Jobs.{open_job, Opened, step_job, Stepped, further, ask_job, finish_job}
use Rattle.laws.specs.Calls.OpenCells.{read_accepted}
use Rattle.laws.specs.Calls.Jobs.{open_refused, open_accepted, step_done, step_on}
use Rattle.readback.specs.Sheets.ReadBack.{table_accepted}
use Rattle.answers.specs.AnswerMaps.{made_of, outcome_as, refused_by}
use Rattle.answers.specs.declared.refusal.Kind.TheVariants as kinds
use Rattle.answers.specs.declared.refusal.Refusal.{Refusal}
use Rattle.jobs.specs.Forms.{job_in, job_of}
use Rattle.jobs.specs.Opening.{opened_bytes, new_bytes, no_bytes, new_job_lem, opened_empty_job}
use Rattle.jobs.specs.Stepping.{NextMark, with_mark, after, marks_same, marks_further, job_further}
use Rattle.jobs.specs.Asking.{reached_as}
use Rattle.jobs.specs.declared.job.Job.{Job}
use Rattle.jobs.specs.declared.job.Opened as own_opened
use Rattle.jobs.specs.declared.job.Stepped as own_stepped
use Rattle.jobs.specs.declared.job.Asked as own_asked
use Rattle.jobs.specs.declared.job.Finished as own_finished

pub record OpenDone (s : List ℕ) (r : own_opened.Opened) : Type 0 where
  pub bytes : r.job ≡ opened_bytes s
  pub job : job_of r.job ≡ (open_job s).job
  pub outcome : outcome_as tt r.outcome ≡ (open_job s).answer

pub record StepDone (job : Job) (r : own_stepped.Stepped) : Type 0 where
  pub bytes : r.job ≡ after job (step_job (job_of job)).job
  pub stands : job_of r.job ≡ (step_job (job_of job)).job
  pub outcome : outcome_as tt r.outcome ≡ (step_job (job_of job)).answer

-- the returned job is the one that was passed in
pub record AskDone (job : Job) (group : ℕ) (r : own_asked.Asked) : Type 0 where
  pub same : r.job ≡ job
  pub answer : reached_as r.answer ≡ (ask_job (job_of job) group).answer

pub record FinishDone (job : Job) (cells marks output : List ℕ) (r : own_finished.Finished) (cells_then marks_then output_then : List ℕ) : Type 0 where
  pub same : r.job ≡ job
  pub made : made_of r.answer cells_then marks_then output_then ≡ (finish_job (job_of job) cells marks output).made

-- ---- opening

module _ (s : List ℕ) (job : Job) where
  pub opened_none : job ≡ no_bytes → (refusal : Refusal) → read_full s ≡ refused_by refusal → OpenDone s (record { job = job; outcome = Err refusal })
  unfolding opened_bytes
  opened_none is refusal e =
      record {
        bytes = is ∙ sym (rw (e, opened_bytes));
        job = ap job_of is ∙ opened_empty_job ∙ sym (ap (λ (o : Opened). o.job) (open_refused s _ _ e));
        outcome = sym (ap (λ (o : Opened). o.answer) (open_refused s _ _ e));
      }

  pub opened_new : (t : Table) → job ≡ new_bytes t → read_full s ≡ accepted t → OpenDone s (record { job = job; outcome = Ok tt })
  unfolding opened_bytes
  opened_new t is e =
      record {
        bytes = is ∙ sym (rw (e, opened_bytes));
        job = ap job_of is ∙ new_job_lem t (table_accepted s t (read_accepted s t e).0).1 ∙ sym (ap (λ (o : Opened). o.job) (open_accepted s t e));
        outcome = sym (ap (λ (o : Opened). o.answer) (open_accepted s t e));
      }

-- ---- a step

module _ (job : Job) where
  pub stepped_done : NextMark (job_of job) None → StepDone job (record { job = job; outcome = Err (record { kind = kinds.JobDone; place = 0 }) })
  unfolding after job_in
  stepped_done h =
      let e = step_done (job_of job) h in
      record {
        bytes = (λ i. record {
          lines = job.lines;
          cells = job.cells;
          marks = marks_same job.lines job.cells job.marks job.passed i;
          passed =
              job.passed;
        })
            ∙ ap (λ (s : Stepped). after job s.job) (sym e);
        stands = sym (ap (λ (s : Stepped). s.job) e);
        outcome = sym (ap (λ (s : Stepped). s.answer) e);
      }

  pub stepped_on : (mark : ℕ) → NextMark (job_of job) (Some mark) → (next : Job) → next ≡ with_mark job mark
      → StepDone job (record { job = next; outcome = Ok tt })
  unfolding after with_mark further job_in
  stepped_on mark (h, room, is) next to =
      let e = step_on (job_of job) h in
      record {
        bytes = to
            ∙ (λ i. record {
              lines = job.lines;
              cells = job.cells;
              marks = marks_further job.lines job.cells job.marks job.passed h mark is i;
              passed = job.passed + 1;
            })
            ∙ ap (λ (s : Stepped). after job s.job) (sym e);
        stands = ap job_of to ∙ job_further job.lines job.cells job.marks job.passed h mark is ∙ sym (ap (λ (s : Stepped). s.job) e);
        outcome = sym (ap (λ (s : Stepped). s.answer) e);
      }
