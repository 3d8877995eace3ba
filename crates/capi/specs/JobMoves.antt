-- "For every list of steps and askings from a newly opened job" (document 02, K9), for the calls for C: the bytes that opening wrote and that steps
-- changed are the job after these moves.
-- `marks_passed` and `marks_ahead` in demands/Jobs say what the marks of such a job are.
-- Assumes nothing.
use Rattle.std.specs.Prelude.{◌≡◌, ◌∷◌, ◌++◌}
use Rattle.laws.specs.Prelude.{ℕ, ◌∙◌, sym, ap, List, []}
use Rattle.rules.specs.Calls.Jobs.{Job, open_job, step_job, ask_job, Move, step, ask, moved, after_moves}
use Rattle.jobs.specs.Forms.{job_in}
use Rattle.jobs.specs.Reached.{after_last}
use Rattle.capi.specs.declared.numbers.flat.SitgurpAnswer.{SitgurpAnswer}
use Rattle.capi.specs.JobOpen.{FlatOpened}
use Rattle.capi.specs.JobStep.{FlatStepped}

-- The four parts of a job that came from the sheet s by the C calls: opened, advanced by steps, and asked. Each case has what the call's contract
-- says about the memory lent to it; asking and finishing only read the parts.
pub data FlatGot (s : List ℕ) : List Move → List ℕ → List ℕ → List ℕ → ℕ → Type 0 where
  opened : {lines cells marks : List ℕ} {passed : ℕ} (r : SitgurpAnswer) → FlatOpened s r lines cells marks passed → FlatGot s [] lines cells marks passed
  stepped : {moves : List Move} {lines cells marks marks_after : List ℕ} {passed passed_after : ℕ} → FlatGot s moves lines cells marks passed
      → (r : SitgurpAnswer) → FlatStepped lines cells marks passed r marks_after passed_after
      → FlatGot s (moves ++ (step ∷ [])) lines cells marks_after passed_after
  asked : {moves : List Move} {lines cells marks : List ℕ} {passed : ℕ} → FlatGot s moves lines cells marks passed
      → (g : ℕ) → FlatGot s (moves ++ (ask g ∷ [])) lines cells marks passed

-- they are the job after these moves
pub flat_reached_job : {s : List ℕ} {moves : List Move} {lines cells marks : List ℕ} {passed : ℕ} → FlatGot s moves lines cells marks passed
    → job_in lines cells marks passed ≡ after_moves moves (open_job s).job
unfolding after_moves moved ask_job
flat_reached_job (opened r did) = did.stands
flat_reached_job {s} (stepped {moves} got r did) =
    did.stands ∙ ap (λ (j : Job). (step_job j).job) (flat_reached_job got) ∙ sym (after_last moves step (open_job s).job)
flat_reached_job {s} (asked {moves} got g) = flat_reached_job got ∙ sym (after_last moves (ask g) (open_job s).job)
