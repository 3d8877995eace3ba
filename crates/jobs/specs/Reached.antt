-- "jobs got by opening and stepping": a job by value that came from `open` and then calls of `step` and `mark` represents the job after these moves.
-- Assumes nothing.
use Rattle.std.specs.Prelude.{◌≡◌, ◌∷◌, ◌++◌}
use Rattle.laws.specs.Prelude.{ℕ, ◌∙◌, sym, ap, refl, List, []}
use Rattle.rules.specs.Calls.Jobs.{open_job, step_job, ask_job, Move, step, ask, moved, after_moves}
use Rattle.rules.specs.Calls.Jobs as rules
use Rattle.jobs.specs.Forms.{job_of}
use Rattle.jobs.specs.Calls.{OpenDone, StepDone, AskDone}
use Rattle.jobs.specs.declared.job.Job.{Job}
use Rattle.jobs.specs.declared.job.Opened.{Opened}
use Rattle.jobs.specs.declared.job.Stepped.{Stepped}
use Rattle.jobs.specs.declared.job.Asked.{Asked}

-- the job came from the sheet s by opening and these moves, by the contracts of the calls
pub data Got (s : List ℕ) : List Move → Job → Type 0 where
  opened : (r : Opened) → OpenDone s r → Got s [] r.job
  stepped : (moves : List Move) (job : Job) → Got s moves job → (r : Stepped) → StepDone job r → Got s (moves ++ (step ∷ [])) r.job
  asked : (moves : List Move) (job : Job) → Got s moves job → (g : ℕ) (r : Asked) → AskDone job g r → Got s (moves ++ (ask g ∷ [])) r.job

-- one more move, at the end
pub after_last : (moves : List Move) (move : Move) (job : rules.Job) → after_moves (moves ++ (move ∷ [])) job ≡ moved move (after_moves moves job)
unfolding after_moves
after_last [] move job = refl
after_last (first ∷ moves) move job = after_last moves move (moved first job)

pub reached_job : (s : List ℕ) (moves : List Move) (job : Job) → Got s moves job → job_of job ≡ after_moves moves (open_job s).job
unfolding after_moves moved ask_job
reached_job s moves job (opened r did) = did.job
reached_job s moves job (stepped before from got r did) =
    did.stands ∙ ap (λ (j : rules.Job). (step_job j).job) (reached_job s before from got) ∙ sym (after_last before step (open_job s).job)
reached_job s moves job (asked before from got g r did) =
    ap job_of did.same ∙ reached_job s before from got ∙ sym (after_last before (ask g) (open_job s).job)
