-- The numbers with which a job's calls may refuse, for every job: opening with those of a sheet of a full table, a step with 21, asking with 11,
-- finishing with 9, 10, 27, 22 and then making's; and that a refusal returns the job unchanged.
-- Assumes nothing.
use Rattle.std.specs.Prelude.{◌^◌, ◌≡◌, ◌||◌, ◌∷◌}
use Rattle.laws.specs.Prelude.{ℕ, ◌∙◌, sym, ap, refl, List, [], lt_of_not-le, dec_le, eqb, ltb, leb, by_cases}
use Rattle.rules.specs.Calls.Answers.{refused}
use Rattle.rules.specs.Calls.OpenCells.{read_full}
use Rattle.rules.specs.Calls.Settling.{Made, settled_net}
use Rattle.rules.specs.Lists.{any}
use Rattle.rules.specs.Calls.Jobs.{Job, groups_of, Opened, open_job, Stepped, step_job, ask_job, may_finish, finish_job}
use Rattle.laws.specs.Calls.Answers.{not_refused}
use Rattle.laws.specs.Calls.Jobs.{step_done, step_on}
use Rattle.laws.specs.Lists.Tests.{by_test}
use Rattle.demands.specs.Sheets.FullSheets.{full_numbers, full_refusal}
use Rattle.demands.specs.Numbers.Numbers.{Gives, accepts, by_answer, by_onward, cells_numbers, refuses}
use Rattle.demands.specs.Numbers.SettlingNumbers.{into_numbers}

-- 9, 10, 27 and 22, and then making's
abbrev pub finish_numbers : List ℕ
finish_numbers = 9 ∷ 10 ∷ 27 ∷ 22 ∷ 13 ∷ 14 ∷ 16 ∷ 15 ∷ []

pub open_numbers : (s : List ℕ) → Gives full_numbers (open_job s).answer
unfolding open_job
open_numbers s =
    by_answer (λ (o : Opened). Gives full_numbers o.answer) (read_full s) _ _ (λ _ _. accepts full_numbers tt)
    (λ number place e. refuses full_numbers number place (full_refusal s number place e))

module _ (job : Job) where
  pub step_numbers : Gives (21 ∷ []) (step_job job).answer
  unfolding step_job any
  step_numbers =
      by_test (λ (s : Stepped). Gives (21 ∷ []) s.answer) (leb (groups_of job) job.passed) _ _ (refuses (21 ∷ []) 21 0 refl) (accepts (21 ∷ []) tt)

  -- and leaves "the job .. untouched"
  pub step_untouched : (number place : ℕ) → (step_job job).answer ≡ refused number place → (step_job job).job ≡ job
  step_untouched number place e = by_cases (dec_le (groups_of job) job.passed)
      (λ done. ap (λ (s : Stepped). s.job) (step_done job done))
      (λ on. absurd (not_refused tt number place (sym (ap (λ (s : Stepped). s.answer) (step_on job (lt_of_not-le on))) ∙ e)))

  pub ask_numbers : (g : ℕ) → Gives (11 ∷ []) (ask_job job g).answer
  unfolding ask_job any
  ask_numbers g =
      by_test (Gives (11 ∷ [])) (eqb g 0 || leb (2 ^ job.table.header.inputs) g) _ _ (refuses (11 ∷ []) 11 0 refl) (accepts (11 ∷ []) _)

  may_numbers : Gives finish_numbers (may_finish job)
  unfolding may_finish any
  may_numbers =
      by_onward finish_numbers _ _ (cells_numbers _ _ _ finish_numbers refl refl refl)
      (λ _. by_test (Gives finish_numbers) (ltb job.passed (groups_of job)) _ _ (refuses finish_numbers 22 _ refl) (accepts finish_numbers tt))

  pub finish_numbers_lem : (cells marks output : List ℕ) → Gives finish_numbers (finish_job job cells marks output).made.answer
  unfolding finish_job any
  finish_numbers_lem cells marks output =
      by_answer (λ (m : Made). Gives finish_numbers m.answer) (may_finish job) _ _
      (λ _ _. into_numbers settled_net finish_numbers refl refl refl job.table (λ _. refl) cells marks output)
      (λ number place e. refuses finish_numbers number place (may_numbers number place e))
