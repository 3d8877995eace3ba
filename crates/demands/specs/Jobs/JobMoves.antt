-- The job after any list of steps and questions: its table is unchanged, each step passes one group until all are passed, and the marks
-- of the groups passed are document 01's, every other mark 0.
-- Assumes nothing.
use Rattle.std.specs.Prelude.{◌<◌, ◌≤◌, ◌+◌, ◌^◌, ◌≡◌, ◌∷◌}
use Rattle.laws.specs.Prelude.{ℕ, suc, ◌∙◌, sym, ap, refl, List, [], lt_of_not-le, ℕ_discrete, dec_le, arith, length, set}
use Rattle.laws.specs.Prelude.{length-set, replicate, length-replicate, get_or-replicate, get_or-eq_default, get_or-set_same, get_or-set_other, ext_get_or}
use Rattle.laws.specs.Prelude.{pow_pos, by_cases}
use Rattle.rules.specs.Calls.Answers.{ink_in}
use Rattle.rules.specs.Groups.Marks.{mark_in, mark_of, marks_of}
use Rattle.rules.specs.Sheets.Sheets.{Table}
use Rattle.rules.specs.Calls.Jobs.{Job, new_job, groups_of, further, Stepped, step_job, ask_job, Move, step, ask, moved, after_moves}
use Rattle.laws.specs.Calls.Jobs.{step_done, step_on}
use Rattle.laws.specs.Calls.Settling.{marks_of_table}
use Rattle.trees.specs.Groups.MarkRule.{mark_agree, mark_rule, marks_length_lem}

-- how many of them are steps
unfoldable pub steps_in : List Move → ℕ
steps_in [] = 0
steps_in (step ∷ moves) = suc (steps_in moves)
steps_in (ask g ∷ moves) = steps_in moves

-- all groups have been passed
abbrev pub Done : Job → Type 0
Done job = groups_of job ≤ job.passed

-- ---- any list

-- if a property holds for a job and is kept one group further, it holds after any list of steps and questions
pub kept_by : (P : Job → Type 0) → ((job : Job) → P job → job.passed < groups_of job → P (further job))
    → (moves : List Move) (job : Job) → P job → P (after_moves moves job)
unfolding after_moves moved ask_job
kept_by P next [] job h = h
kept_by P next (ask g ∷ moves) job h = kept_by P next moves job h
kept_by P next (step ∷ moves) job h = kept_by P next moves (step_job job).job (one (dec_le (groups_of job) job.passed))
  where
    one : Dec (Done job) → P (step_job job).job
    one (yes done) = rw (step_done job done) h
    one (no on) = rw (step_on job (lt_of_not-le on)) (next job h (lt_of_not-le on))

-- so the table stays
pub moves_table : (moves : List Move) (job : Job) → (after_moves moves job).table ≡ job.table
unfolding further
moves_table moves job = kept_by (λ (after : Job). after.table ≡ job.table) (λ after e _. e) moves job refl

-- ---- how many groups are passed

pub moves_passed : (moves : List Move) (job : Job) → job.passed + steps_in moves ≤ groups_of job → (after_moves moves job).passed ≡ job.passed + steps_in moves
unfolding after_moves moved ask_job steps_in further groups_of
moves_passed [] job h = omega arith
moves_passed (ask g ∷ moves) job h = moves_passed moves job h
moves_passed (step ∷ moves) job h =
    ap (λ (s : Stepped). (after_moves moves s.job).passed) (step_on job (omega arith)) ∙ moves_passed moves (further job) (omega arith) ∙ omega arith

pub moves_all : (moves : List Move) (job : Job) → job.passed ≤ groups_of job → groups_of job ≤ job.passed + steps_in moves
    → (after_moves moves job).passed ≡ groups_of job
unfolding after_moves moved ask_job steps_in further groups_of
moves_all [] job low h = omega arith
moves_all (ask g ∷ moves) job low h = moves_all moves job low h
moves_all (step ∷ moves) job low h = go (dec_le (groups_of job) job.passed) (λ l. moves_all moves job low l) (λ l k. moves_all moves (further job) l k)
  where
    go : Dec (Done job)
        → (groups_of job ≤ job.passed + steps_in moves → (after_moves moves job).passed ≡ groups_of job)
        → (job.passed + 1 ≤ groups_of job → groups_of job ≤ job.passed + 1 + steps_in moves → (after_moves moves (further job)).passed ≡ groups_of job)
        → (after_moves moves (step_job job).job).passed ≡ groups_of job
    go (yes done) stays on = ap (λ (s : Stepped). (after_moves moves s.job).passed) (step_done job done) ∙ stays (omega arith)
    go (no more) stays on =
        ap (λ (s : Stepped). (after_moves moves s.job).passed) (step_on job (lt_of_not-le more)) ∙ on (omega (arith, lt_of_not-le more)) (omega arith)

-- "stays the same": the questions may be left out
pub moves_steps : (moves : List Move) (job : Job) → after_moves moves job ≡ after_moves (replicate (steps_in moves) step) job
unfolding after_moves moved ask_job steps_in
moves_steps [] job = refl
moves_steps (ask g ∷ moves) job = moves_steps moves job
moves_steps (step ∷ moves) job = moves_steps moves (step_job job).job

-- ---- the marks

-- the marks of the groups passed are those of the job's table, and every other mark is 0
pub record Along (job : Job) : Type 0 where
  pub low : job.passed < 2 ^ job.table.header.inputs
  pub count : length job.marks ≡ 2 ^ job.table.header.inputs
  pub passed : (g : ℕ) → g ≤ job.passed → mark_in job.marks g ≡ mark_in (marks_of_table job.table) g
  pub ahead : (g : ℕ) → job.passed < g → mark_in job.marks g ≡ 0

module _ (t : Table) (pos : 0 < t.header.levels) where
  open t.header use {levels as m, inputs as n}

  abbrev ink : ℕ → ℕ
  ink = ink_in t.inks

  -- the empty group has mark 0
  empty_mark : mark_in (marks_of m n ink) 0 ≡ 0
  unfolding mark_of
  empty_mark = mark_rule m n pos ink 0 (pow_pos n)

  none_marked : (k g : ℕ) → mark_in (replicate k 0) g ≡ 0
  none_marked k g = by_cases (dec_le k g)
      (λ h. get_or-eq_default (replicate k 0) 0 (omega (arith, length-replicate {A = ℕ} k 0)))
      (λ h. get_or-replicate k g 0 0 (lt_of_not-le h))

  new_along : Along (new_job t)
  unfolding new_job
  new_along = record {
    low = pow_pos n;
    count = length-replicate (2 ^ n) 0;
    passed = λ g h. none_marked (2 ^ n) g ∙ sym empty_mark ∙ ap (mark_in (marks_of m n ink)) (omega arith);
    ahead = λ g h. none_marked (2 ^ n) g;
  }

pub further_along : (job : Job) → 0 < job.table.header.levels → Along job → job.passed < groups_of job → Along (further job)
unfolding further groups_of
further_along job pos along on = record {
  low = omega (arith, along.low);
  count = length-set job.marks g v ∙ along.count;
  passed = λ a h. own a (ℕ_discrete a g) h;
  ahead = λ a h. get_or-set_other job.marks g a v 0 (λ e. omega arith) ∙ along.ahead a (omega arith);
}
  where
    m : ℕ
    m = job.table.header.levels

    n : ℕ
    n = job.table.header.inputs

    ink : ℕ → ℕ
    ink = ink_in job.table.inks

    g : ℕ
    g = job.passed + 1

    v : ℕ
    v = mark_of m n ink job.marks g

    g< : g < 2 ^ n
    g< = omega arith

    is_mark : v ≡ mark_in (marks_of m n ink) g
    is_mark = mark_agree m n ink job.marks (marks_of m n ink) g (λ a h. along.passed a (omega arith)) ∙ sym (mark_rule m n pos ink g g<)

    own : (a : ℕ) → Dec (a ≡ g) → a ≤ g → mark_in (set job.marks g v) a ≡ mark_in (marks_of m n ink) a
    own a (yes e) h = rw e (get_or-set_same job.marks g v 0 (omega (arith, along.count)) ∙ is_mark)
    own a (no ne) h = get_or-set_other job.marks g a v 0 ne ∙ along.passed a (omega arith)

pub moves_along : (moves : List Move) (t : Table) → 0 < t.header.levels → Along (after_moves moves (new_job t))
unfolding new_job further
moves_along moves t pos =
    (kept_by (λ (job : Job). (0 < job.table.header.levels) × Along job) (λ job h on. (h.0, further_along job h.0 h.1 on)) moves (new_job t)
    (pos, new_along t pos)).1

-- once all groups are passed, the marks in the job are all marks
pub all_marked : (job : Job) → 0 < job.table.header.levels → Along job → Done job → job.marks ≡ marks_of_table job.table
unfolding groups_of
all_marked job pos along done =
    ext_get_or 0 _ _ (along.count ∙ sym (marks_length_lem _ _ pos _)) (λ g h. along.passed g (omega (arith, along.count)))
