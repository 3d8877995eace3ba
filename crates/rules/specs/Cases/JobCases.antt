-- Document 02, K9, by small cases: a job on a table with no tree, group by group; one on a table that has a tree; the empty job.
-- Assumes nothing.
use Rattle.std.specs.Prelude.{ℕ, ◌≡◌, refl, List, [], ◌∷◌, replicate}
use Rattle.rules.specs.Sheets.Printed.{printed_table}
use Rattle.rules.specs.Calls.Answers.{accepted, refused}
use Rattle.rules.specs.Calls.Settling.{make_call}
use Rattle.rules.specs.Calls.Jobs.{Job, new_job, empty_job, open_job, step_job, ask_job, finish_job, final, not_reached, step, after_moves}
use Rattle.rules.specs.Cases.Cases.{zero_table, majority}
use Rattle.rules.specs.Cases.Written.{writing}
use Rattle.rules.specs.Evaluation.{computing}

-- the job after a number of steps on the table of case 5, ink 1 when at least two of a b c are 1
unfoldable pub majority_after : ℕ → Job
majority_after k = after_moves (replicate k step) (open_job (printed_table majority)).job

-- "one group further, in the order of group numbers from 1", and every other mark is 0
pub job_in_order : (majority_after 0 ≡ new_job majority)
    × (majority_after 2 ≡ record { table = majority; marks = 0 ∷ 2 ∷ 2 ∷ 0 ∷ 0 ∷ 0 ∷ 0 ∷ 0 ∷ []; passed = 2 })
    × (majority_after 4 ≡ record { table = majority; marks = 0 ∷ 2 ∷ 2 ∷ 0 ∷ 2 ∷ 0 ∷ 0 ∷ 0 ∷ []; passed = 4 })
    × (majority_after 7 ≡ record { table = majority; marks = 0 ∷ 2 ∷ 2 ∷ 0 ∷ 2 ∷ 0 ∷ 0 ∷ 1 ∷ []; passed = 7 })
unfolding computing writing majority_after majority
job_in_order = (refl, refl, refl, refl)

-- "it answers the final one if the group has been passed, otherwise `not reached`"
pub asked : ((ask_job (majority_after 3) 2).answer ≡ accepted (final 2)) × ((ask_job (majority_after 3) 3).answer ≡ accepted (final 0))
    × ((ask_job (majority_after 3) 4).answer ≡ accepted not_reached) × ((ask_job (majority_after 4) 4).answer ≡ accepted (final 2))
unfolding computing writing majority_after majority
asked = (refl, refl, refl, refl)

-- "After 2 to the n, less 1, steps it is done, never earlier", and a further step leaves it as it is
pub seven_steps : ((step_job (majority_after 6)).answer ≡ accepted tt)
    × (step_job (majority_after 7) ≡ record { job = majority_after 7; answer = refused 21 0 })
unfolding computing writing majority_after majority
seven_steps = (refl, refl)

-- "finishing writes what making writes", here on the table of case 4, all ink 0
pub finished : (cells marks output : List ℕ)
    → (finish_job (after_moves (replicate 7 step) (new_job zero_table)) cells marks output).made ≡ make_call (printed_table zero_table) cells marks output
unfolding computing writing zero_table
finished cells marks output = refl

-- "no inputs, no groups, already done; asking it gives 11 at 0, and finishing it 9 at 0"
pub empty : (cells marks output : List ℕ) → (step_job empty_job ≡ record { job = empty_job; answer = refused 21 0 })
    × ((ask_job empty_job 0).answer ≡ refused 11 0) × ((ask_job empty_job 1).answer ≡ refused 11 0)
    × (finish_job empty_job cells marks output
    ≡ record { job = empty_job; made = record { answer = refused 9 0; cells = cells; marks = marks; output = output } })
unfolding computing
empty cells marks output = (refl, refl, refl, refl)
