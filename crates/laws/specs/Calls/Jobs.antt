-- The results of opening a job, stepping, asking and finishing, one law for each outcome.
-- Assumes nothing.
use Rattle.std.specs.Prelude.{◌<◌, ◌≤◌, ◌-◌, ◌^◌, ◌≡◌}
use Rattle.laws.specs.Prelude.{ℕ, ◌∙◌, or-true, List, eqb, eq-eqb, ne_eqb, lt-ltb, le-ltb, le-leb, lt-leb}
use Rattle.rules.specs.Calls.Answers.{accepted, onward, refused}
use Rattle.rules.specs.Calls.OpenCells.{full_cells, read_full}
use Rattle.rules.specs.Calls.Settling.{settled_net, made_into}
use Rattle.rules.specs.Groups.Marks.{mark_in}
use Rattle.rules.specs.Sheets.Sheets.{Table}
use Rattle.rules.specs.Calls.Jobs.{Job, groups_of, new_job, empty_job, open_job, further, step_job, final, not_reached, reached_in, ask_job, may_finish, finish_job}

-- ---- opening

module _ (s : List ℕ) where
  pub open_refused : (number place : ℕ) → read_full s ≡ refused number place → open_job s ≡ record { job = empty_job; answer = refused number place }
  unfolding open_job
  open_refused number place e = rw (e, open_job)

  pub open_accepted : (t : Table) → read_full s ≡ accepted t → open_job s ≡ record { job = new_job t; answer = accepted tt }
  unfolding open_job
  open_accepted t e = rw (e, open_job)

module _ (job : Job) where
  -- ---- a step

  pub step_done : groups_of job ≤ job.passed → step_job job ≡ record { job = job; answer = refused 21 0 }
  unfolding step_job
  step_done h = rw (le-leb _ _ h, step_job)

  pub step_on : job.passed < groups_of job → step_job job ≡ record { job = further job; answer = accepted tt }
  unfolding step_job
  step_on h = rw (lt-leb _ _ h, step_job)

  -- ---- asking

  module _ (g : ℕ) where
    -- group 0, and one that is not below 2 to the n
    pub ask_empty : g ≡ 0 → ask_job job g ≡ record { job = job; answer = refused 11 0 }
    unfolding ask_job
    ask_empty e = rw (eq-eqb g 0 e, ask_job)

    pub ask_over : 2 ^ job.table.header.inputs ≤ g → ask_job job g ≡ record { job = job; answer = refused 11 0 }
    unfolding ask_job
    ask_over h = rw (le-leb _ g h, or-true (eqb g 0), ask_job)

    -- what the job reports for a group
    reached_passed : g ≤ job.passed → reached_in job g ≡ final (mark_in job.marks g)
    unfolding reached_in
    reached_passed h = rw (le-leb g _ h, reached_in)

    reached_ahead : job.passed < g → reached_in job g ≡ not_reached
    unfolding reached_in
    reached_ahead h = rw (lt-leb g _ h, reached_in)

    module _ (some : g ≡ 0 → ⊥) (below : g < 2 ^ job.table.header.inputs) where
      ask_within : ask_job job g ≡ record { job = job; answer = accepted (reached_in job g) }
      unfolding ask_job
      ask_within = rw (ne_eqb g 0 some, lt-leb _ g below, ask_job)

      pub ask_passed : g ≤ job.passed → ask_job job g ≡ record { job = job; answer = accepted (final (mark_in job.marks g)) }
      ask_passed h = ask_within ∙ (λ i. record { job = job; answer = accepted (reached_passed h i) })

      pub ask_ahead : job.passed < g → ask_job job g ≡ record { job = job; answer = accepted not_reached }
      ask_ahead h = ask_within ∙ (λ i. record { job = job; answer = accepted (reached_ahead h i) })

  -- ---- finishing

  pub may_refused : (number place : ℕ) → full_cells job.table.header.levels job.table.header.inputs job.table.inks ≡ refused number place
      → may_finish job ≡ refused number place
  unfolding may_finish onward
  may_refused number place e = rw (e, may_finish)

  module _ (e : full_cells job.table.header.levels job.table.header.inputs job.table.inks ≡ accepted tt) where
    pub may_22 : job.passed < groups_of job → may_finish job ≡ refused 22 (groups_of job - job.passed)
    unfolding may_finish onward
    may_22 h = rw (e, lt-ltb _ _ h, may_finish)

    pub may_on : groups_of job ≤ job.passed → may_finish job ≡ accepted tt
    unfolding may_finish onward
    may_on h = rw (e, le-ltb _ _ h, may_finish)

  module _ (cells marks output : List ℕ) where
    pub finish_refused : (number place : ℕ) → may_finish job ≡ refused number place
        → finish_job job cells marks output
        ≡ record { job = job; made = record { answer = refused number place; cells = cells; marks = marks; output = output } }
    unfolding finish_job
    finish_refused number place e = rw (e, finish_job)

    pub finish_on : may_finish job ≡ accepted tt
        → finish_job job cells marks output ≡ record { job = job; made = made_into settled_net job.table cells marks output }
    unfolding finish_job
    finish_on e = rw (e, finish_job)
