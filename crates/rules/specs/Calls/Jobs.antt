-- Document 02, K9: "marking can also be had as a job, opened on a table sheet, that keeps its own copy of names, cells and marks." What a job is, and
-- what opening, stepping, asking and finishing return and hand back, for every job.
-- Assumes nothing.
use Rattle.std.specs.Prelude.{ℕ, ◌+◌, ◌-◌, ◌^◌, true, false, ◌||◌, List, [], ◌∷◌, replicate, set, eqb, leb, ltb}
use Rattle.rules.specs.Sheets.Sheets.{Table}
use Rattle.rules.specs.Groups.Marks.{mark_in, mark_of}
use Rattle.rules.specs.Calls.Answers.{Answer, accepted, ink_in, onward, refused}
use Rattle.rules.specs.Calls.OpenCells.{full_cells, read_full}
use Rattle.rules.specs.Calls.Settling.{Made, settled_net, made_into}

-- ---- a job

-- "its own copy of names, cells and marks", and how many groups have been passed. The mark of group g is at place g.
pub record Job : Type 0 where
  pub table : Table
  pub marks : List ℕ
  pub passed : ℕ

-- a job on a table, with no group passed yet: "every other mark in the job is 0"
unfoldable pub new_job : Table → Job
new_job t = record { table = t; marks = replicate (2 ^ t.header.inputs) 0; passed = 0 }

-- no levels, no inputs, no cells
unfoldable pub no_table_of : Table
no_table_of = record { header = record { levels = 0; inputs = 0; names = [] }; inks = [] }

-- "an empty job .. : no inputs, no groups, already done"
unfoldable pub empty_job : Job
empty_job = new_job no_table_of

-- the number of its groups, except the empty one: "2 to the n, less 1"
unfoldable pub groups_of : Job → ℕ
groups_of job = 2 ^ job.table.header.inputs - 1

-- ---- opening

-- the job, and whether the sheet is accepted or its refusal
pub record Opened : Type 0 where
  pub job : Job
  pub answer : Answer (Unit {0})

-- "A sheet that is turned back opens an empty job beside its refusal". "Everything that .. marks groups .. needs a full table, a job at its opening."
-- (document 02, K13)
unfoldable pub open_job : List ℕ → Opened
open_job sheet =
    elim (read_full sheet) [
      | refused number place ↦ record { job = empty_job; answer = refused number place }
      | accepted t ↦ record { job = new_job t; answer = accepted tt }
    ]

-- ---- a step

pub record Stepped : Type 0 where
  pub job : Job
  pub answer : Answer (Unit {0})

-- the job "one group further, in the order of group numbers from 1": adds the next group's mark, computed from those in the job
unfoldable pub further : Job → Job
further job =
    let t = job.table in
    let g = job.passed + 1 in
    record {
      table = t;
      marks = set job.marks g (mark_of t.header.levels t.header.inputs (ink_in t.inks) job.marks g);
      passed = g;
    }

-- "The job is handed in and comes back one group further". 21: "step on a done job, place 0", which leaves "the job .. untouched"
unfoldable pub step_job : Job → Stepped
step_job job =
    elim (leb (groups_of job) job.passed) [
      | true ↦ record { job = job; answer = refused 21 0 }
      | false ↦ record { job = further job; answer = accepted tt }
    ]

-- ---- asking

-- the mark of a group that has been passed, or else `not reached`
pub data Reached : Type 0 where
  final : ℕ → Reached
  not_reached : Reached

pub record Asked : Type 0 where
  pub job : Job
  pub answer : Answer Reached

-- "Asked for a group's mark, it answers the final one if the group has been passed, otherwise `not reached`"
unfoldable pub reached_in : Job → ℕ → Reached
reached_in job g = elim (leb g job.passed) [ true ↦ final (mark_in job.marks g) | false ↦ not_reached ]

-- "and stays the same; 11 refuses as before": "group 0 or not below 2 to the n; place 0"
unfoldable pub ask_job : Job → ℕ → Asked
ask_job job g =
    record {
      job = job;
      answer = elim (eqb g 0 || leb (2 ^ job.table.header.inputs) g) [ true ↦ refused 11 0 | false ↦ accepted (reached_in job g) ];
    }

-- ---- finishing

pub record Finished : Type 0 where
  pub job : Job
  pub made : Made

-- Its cells are judged as bare cells of a full table: "finishing it", an empty job, gives "9 at 0". 22: "finish on an unfinished one, place the
-- groups still to go"
unfoldable pub may_finish : Job → Answer (Unit {0})
may_finish job =
    let t = job.table in
    onward (full_cells t.header.levels t.header.inputs t.inks)
    (λ _. elim (ltb job.passed (groups_of job)) [ true ↦ refused 22 (groups_of job - job.passed) | false ↦ accepted tt ])

-- "both are judged before 13, and leave the job and all buffers untouched". "finishing writes what making writes", from the job's own table.
unfoldable pub finish_job : Job → List ℕ → List ℕ → List ℕ → Finished
finish_job job cells marks output =
    record {
      job = job;
      made = elim (may_finish job) [
        | refused number place ↦ record { answer = refused number place; cells = cells; marks = marks; output = output }
        | accepted _ ↦ made_into settled_net job.table cells marks output
      ];
    }

-- ---- lists of steps and questions

pub data Move : Type 0 where
  step : Move
  ask : ℕ → Move

-- the job after a step or a question
unfoldable pub moved : Move → Job → Job
moved step job = (step_job job).job
moved (ask g) job = (ask_job job g).job

-- .. and after a "list of steps and askings"
unfoldable pub after_moves : List Move → Job → Job
after_moves [] job = job
after_moves (move ∷ moves) job = after_moves moves (moved move job)

-- all of this file computes
unfoldable pub computing : Unit {0}
unfolding new_job no_table_of empty_job groups_of open_job further step_job reached_in ask_job may_finish finish_job moved after_moves
computing = tt
