-- Document 02, K9: the promises about jobs. "For every list of steps and askings from a newly opened job, the marks passed are those of document 01
-- and every other mark in the job is 0."
-- Assumes nothing.
use Rattle.std.specs.Prelude.{◌<◌, ◌≤◌, ◌+◌, ◌-◌, ◌^◌, ◌≡◌, ◌↔◌, ◌∷◌}
use Rattle.laws.specs.Prelude.{ℕ, ◌∙◌, sym, ap, refl, subst, List, [], zero-add, lt_of_not-le, ℕ_discrete, dec_le}
use Rattle.laws.specs.Prelude.{arith, length, replicate}
use Rattle.rules.specs.Calls.Answers.{accepted, refused}
use Rattle.rules.specs.Calls.OpenCells.{full_cells, read_full}
use Rattle.rules.specs.Calls.Settling.{made_into, settled_net, make_call}
use Rattle.rules.specs.Groups.Marks.{mark_in}
use Rattle.rules.specs.Limits.{levels_fit, size_fits}
use Rattle.rules.specs.Sheets.Sheets.{Table}
use Rattle.rules.specs.Calls.Jobs.{Job, no_table_of, new_job, empty_job, groups_of, Opened, open_job, Stepped, step_job, further, ask_job, final, not_reached}
use Rattle.rules.specs.Calls.Jobs.{finish_job, Move, step, ask, moved, after_moves}
use Rattle.laws.specs.Calls.Jobs.{open_refused, open_accepted, step_done, step_on, ask_empty, ask_over, ask_passed, ask_ahead, may_refused, may_22}
use Rattle.laws.specs.Calls.Jobs.{may_on, finish_refused, finish_on}
use Rattle.laws.specs.Calls.BareCells.{bare_size}
use Rattle.laws.specs.Calls.OpenCells.{cells_kept, cells_refused}
use Rattle.laws.specs.Calls.Settling.{marks_of_table, make_accepted}
use Rattle.trees.specs.Trees.NetTables.{levels_pos}
use Rattle.demands.specs.Jobs.JobMoves.{steps_in, Done, moves_table, moves_passed, moves_all, moves_steps, Along, moves_along, all_marked}
use Rattle.demands.specs.Sheets.FullSheets.{full_accepted, full_keeps}

-- ---- a job on an accepted sheet of a full table, after any list of steps and questions

module _ (s : List ℕ) (t : Table) (reads : read_full s ≡ accepted t) (moves : List Move) where
  -- the job
  abbrev pub job_after : Job
  job_after = after_moves moves (open_job s).job

  -- its groups: "2 to the n, less 1"
  abbrev pub groups : ℕ
  groups = 2 ^ t.header.inputs - 1

  opened : (open_job s).job ≡ new_job t
  opened = ap (λ (o : Opened). o.job) (open_accepted s t reads)

  new_after : job_after ≡ after_moves moves (new_job t)
  new_after = ap (after_moves moves) opened

  pos : 0 < t.header.levels
  pos = levels_pos t.header.levels (full_accepted s t reads).1.header.levels

  -- "keeps its own copy of names, cells"
  pub keeps_table : job_after.table ≡ t
  unfolding new_job
  keeps_table = ap (λ (job : Job). job.table) new_after ∙ moves_table moves (new_job t)

  keeps_groups : groups_of job_after ≡ groups
  unfolding groups_of
  keeps_groups = ap (λ (t : Table). 2 ^ t.header.inputs - 1) keeps_table

  along : Along job_after
  along = subst Along (sym new_after) (moves_along moves t pos)

  -- "the marks passed are those of document 01", ..
  pub marks_passed : (g : ℕ) → g ≤ job_after.passed → mark_in job_after.marks g ≡ mark_in (marks_of_table t) g
  marks_passed g h = along.passed g h ∙ ap (λ (t : Table). mark_in (marks_of_table t) g) keeps_table

  -- .. "and every other mark in the job is 0"
  pub marks_ahead : (g : ℕ) → job_after.passed < g → mark_in job_after.marks g ≡ 0
  marks_ahead g h = along.ahead g h

  pub marks_count : length job_after.marks ≡ 2 ^ t.header.inputs
  marks_count = along.count ∙ ap (λ (t : Table). 2 ^ t.header.inputs) keeps_table

  -- each step passes a group, ..
  pub passed_steps : steps_in moves ≤ groups → job_after.passed ≡ steps_in moves
  unfolding new_job groups_of
  passed_steps h = ap (λ (job : Job). job.passed) new_after ∙ moves_passed moves (new_job t) (omega arith) ∙ zero-add _

  -- .. until all are passed
  pub passed_all : groups ≤ steps_in moves → job_after.passed ≡ groups
  unfolding new_job groups_of
  passed_all h = ap (λ (job : Job). job.passed) new_after ∙ moves_all moves (new_job t) (omega arith) (omega arith)

  -- "After 2 to the n, less 1, steps it is done, never earlier"
  pub done_exactly : Done job_after ↔ (groups ≤ steps_in moves)
  done_exactly = (λ done. late (dec_le groups (steps_in moves)) done, λ h. omega (arith, keeps_groups, passed_all h))
    where
      late : Dec (groups ≤ steps_in moves) → Done job_after → groups ≤ steps_in moves
      late (yes h) done = h
      late (no h) done = absurd (omega (arith, keeps_groups, passed_steps (omega (arith, lt_of_not-le h)), lt_of_not-le h))

  -- ---- a step

  -- "21, step on a done job, place 0", which leaves "the job .. untouched"
  pub step_21 : groups ≤ steps_in moves → step_job job_after ≡ record { job = job_after; answer = refused 21 0 }
  step_21 h = step_done job_after (done_exactly.1 h)

  -- "The job is handed in and comes back one group further"
  pub step_further : steps_in moves < groups → ((step_job job_after).answer ≡ accepted tt) × ((step_job job_after).job.passed ≡ steps_in moves + 1)
  unfolding further
  step_further h =
      let on : job_after.passed < groups_of job_after = omega (arith, keeps_groups, passed_steps (omega arith)) in (
        ap (λ (s : Stepped). s.answer) (step_on job_after on),
        ap (λ (s : Stepped). s.job.passed) (step_on job_after on) ∙ ap (λ (k : ℕ). k + 1) (passed_steps (omega arith)),
      )

  -- ---- asking

  module _ (g : ℕ) where
    keeps_below : g < 2 ^ t.header.inputs → g < 2 ^ job_after.table.header.inputs
    keeps_below below = subst (λ (t : Table). g < 2 ^ t.header.inputs) (sym keeps_table) below

    module _ (some : g ≡ 0 → ⊥) (below : g < 2 ^ t.header.inputs) where
      -- "it answers the final one if the group has been passed", ..
      pub asked_passed : g ≤ job_after.passed → ask_job job_after g ≡ record { job = job_after; answer = accepted (final (mark_in (marks_of_table t) g)) }
      asked_passed h =
          ask_passed job_after g some (keeps_below below) h ∙ (λ i. record { job = job_after; answer = accepted (final (marks_passed g h i)) })

      -- .. "otherwise `not reached`"
      pub asked_ahead : job_after.passed < g → ask_job job_after g ≡ record { job = job_after; answer = accepted not_reached }
      asked_ahead h = ask_ahead job_after g some (keeps_below below) h

    -- "11 refuses as before"
    pub asked_11 : 2 ^ t.header.inputs ≤ g → ask_job job_after g ≡ record { job = job_after; answer = refused 11 0 }
    asked_11 h = ask_over job_after g (subst (λ (t : Table). 2 ^ t.header.inputs ≤ g) (sym keeps_table) h)

  -- ---- finishing

  own_cells : full_cells job_after.table.header.levels job_after.table.header.inputs job_after.table.inks ≡ accepted tt
  own_cells =
      ap (λ (t : Table). full_cells t.header.levels t.header.inputs t.inks) keeps_table
      ∙ cells_kept t (full_keeps t (full_accepted s t reads).1) (full_accepted s t reads).1.below

  module _ (cells marks output : List ℕ) where
    -- "finishing writes what making writes", and returns the job, which may be finished again
    pub finishes : groups ≤ steps_in moves → finish_job job_after cells marks output ≡ record { job = job_after; made = make_call s cells marks output }
    finishes h =
        finish_on job_after cells marks output (may_on job_after own_cells (done_exactly.1 h))
        ∙ (λ i. record {
          job = job_after;
          made = (ap (λ (t : Table). made_into settled_net t cells marks output) keeps_table ∙ sym (make_accepted s cells marks output t reads)) i;
        })

    -- "22, finish on an unfinished one, place the groups still to go", which leaves "the job and all buffers untouched"
    pub finish_22 : steps_in moves < groups
        → finish_job job_after cells marks output
        ≡ record { job = job_after; made = record { answer = refused 22 (groups - steps_in moves); cells = cells; marks = marks; output = output } }
    finish_22 h =
        let passed = passed_steps (omega arith) in
        let to_go : groups_of job_after - job_after.passed ≡ groups - steps_in moves = omega (arith, keeps_groups, passed) in
        finish_refused job_after cells marks output 22 _ (may_22 job_after own_cells (omega (arith, keeps_groups, passed)))
        ∙ (λ i. record { job = job_after; made = record { answer = refused 22 (to_go i); cells = cells; marks = marks; output = output } })

  -- the marks that it writes are those in the job
  pub finished_marks : groups ≤ steps_in moves → job_after.marks ≡ marks_of_table t
  finished_marks h =
      all_marked job_after (subst (λ (t : Table). 0 < t.header.levels) (sym keeps_table) pos) along (done_exactly.1 h) ∙ ap marks_of_table keeps_table

  -- "and stays the same": the questions might have been left out
  pub askings_nothing : job_after ≡ after_moves (replicate (steps_in moves) step) (open_job s).job
  askings_nothing = moves_steps moves (open_job s).job

-- ---- every job

module _ (job : Job) where
  -- asking returns the job unchanged, ..
  pub asked_same : (g : ℕ) → (ask_job job g).job ≡ job
  unfolding ask_job
  asked_same g = refl

  -- .. and so does finishing, which may be repeated
  pub finished_same : (cells marks output : List ℕ) → (finish_job job cells marks output).job ≡ job
  unfolding finish_job
  finished_same cells marks output = refl

-- ---- "A sheet that is turned back opens an empty job beside its refusal"

pub refused_opening : (s : List ℕ) (number place : ℕ) → read_full s ≡ refused number place → open_job s ≡ record { job = empty_job; answer = refused number place }
refused_opening = open_refused

-- "no inputs, no groups, already done; asking it gives 11 at 0, and finishing it 9 at 0"
pub record Empty : Type 0 where
  pub no_inputs : empty_job.table.header.inputs ≡ 0
  pub no_groups : groups_of empty_job ≡ 0
  pub done : Done empty_job
  pub stepping : step_job empty_job ≡ record { job = empty_job; answer = refused 21 0 }
  pub asking : (g : ℕ) → ask_job empty_job g ≡ record { job = empty_job; answer = refused 11 0 }
  pub finishing : (cells marks output : List ℕ)
      → finish_job empty_job cells marks output
      ≡ record { job = empty_job; made = record { answer = refused 9 0; cells = cells; marks = marks; output = output } }
  pub moving : (moves : List Move) → after_moves moves empty_job ≡ empty_job

empty_size : full_cells 0 0 [] ≡ refused 9 0
unfolding size_fits levels_fit
empty_size = sym (cells_refused 0 0 [] 9 0 (bare_size 0 0 [] refl))

empty_step : step_job empty_job ≡ record { job = empty_job; answer = refused 21 0 }
unfolding empty_job new_job no_table_of groups_of
empty_step = step_done empty_job (omega arith)

empty_ask : (g : ℕ) → Dec (g ≡ 0) → ask_job empty_job g ≡ record { job = empty_job; answer = refused 11 0 }
unfolding empty_job new_job no_table_of
empty_ask g (yes e) = ask_empty empty_job g e
empty_ask g (no ne) = ask_over empty_job g (omega arith)

empty_moves : (moves : List Move) → after_moves moves empty_job ≡ empty_job
unfolding after_moves moved ask_job
empty_moves [] = refl
empty_moves (ask g ∷ moves) = empty_moves moves
empty_moves (step ∷ moves) = ap (λ (s : Stepped). after_moves moves s.job) empty_step ∙ empty_moves moves

pub empty_job_lem : Empty
unfolding empty_job new_job no_table_of groups_of
empty_job_lem = record {
  no_inputs = refl;
  no_groups = refl;
  done = omega arith;
  stepping = empty_step;
  asking = λ g. empty_ask g (ℕ_discrete g 0);
  finishing = λ cells marks output. finish_refused empty_job cells marks output 9 0 (may_refused empty_job 9 0 empty_size);
  moving = empty_moves;
}
