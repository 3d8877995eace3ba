-- Finishing a job, by its parts: its outcomes, and what making from its table requires.
-- Assumes nothing.
use Rattle.std.specs.Prelude.{◌<◌, ◌≤◌, ◌-◌, ◌^◌, ◌≡◌}
use Rattle.laws.specs.Prelude.{ℕ, ◌∙◌, sym, ap, refl, List, [], sub-zero, arith, take}
use Rattle.rules.specs.Limits.{levels_fit, size_fits}
use Rattle.rules.specs.Sheets.Sheets.{Table}
use Rattle.rules.specs.Calls.Answers as answers
use Rattle.rules.specs.Calls.Answers.{accepted, refused}
use Rattle.rules.specs.Calls.OpenCells.{full_cells}
use Rattle.rules.specs.Calls.Settling.{settled_net, made_into}
use Rattle.rules.specs.Calls.Jobs.{Job, no_table_of, groups_of, may_finish, Finished, finish_job}
use Rattle.laws.specs.Calls.Answers.{not_refused}
use Rattle.laws.specs.Calls.BareCells.{bare_size}
use Rattle.laws.specs.Calls.OpenCells.{cells_refused, cells_sized, cells_below}
use Rattle.laws.specs.Calls.Jobs.{may_refused, may_22, may_on, finish_refused, finish_on}
use Rattle.nets.specs.declared.forms.Header.{Header}
use Rattle.nets.specs.Forms.{header_of, table_in}
use Rattle.accepted.specs.Taken.{Given, names_inside}
use Rattle.jobs.specs.Forms.{Fronted, table_from, job_in, front_job, job_front_kept}

-- ---- a job with no table

no_size : full_cells 0 0 [] ≡ refused 9 0
unfolding size_fits levels_fit
no_size = sym (cells_refused 0 0 [] 9 0 (bare_size 0 0 [] refl))

pub finish_none : (lines own marks : List ℕ) (passed : ℕ) → table_from lines own ≡ no_table_of → (cells buffer output : List ℕ)
    → record { answer = refused 9 0; cells = cells; marks = buffer; output = output } ≡ (finish_job (job_in lines own marks passed) cells buffer output).made
unfolding job_in no_table_of
finish_none lines own marks passed none cells buffer output =
    sym (ap (λ (f : Finished). f.made) (finish_refused (job_in lines own marks passed) cells buffer output 9 0
    (may_refused (job_in lines own marks passed) 9 0 (ap (λ (t : Table). full_cells t.header.levels t.header.inputs t.inks) none ∙ no_size))))

-- ---- a job on a table

module _ (lines : List ℕ) (h : Header) (is : Fronted lines h) (inks : List ℕ) (passed : ℕ) where
  -- with any marks
  abbrev pub job_with : List ℕ → Job
  job_with marks = record { table = table_in lines h inks; marks = marks; passed = passed }

  pub may_not : (number place : ℕ) → refused number place ≡ full_cells h.levels h.inputs inks → (marks : List ℕ)
      → refused number place ≡ may_finish (job_with marks)
  unfolding header_of
  may_not number place e marks = sym (may_refused (job_with marks) number place (sym e))

  module _ (good : accepted tt ≡ full_cells h.levels h.inputs inks) (groups : ℕ) (all : groups ≡ 2 ^ h.inputs - 1) (marks : List ℕ) where
    pub may_not_yet : passed < groups → refused 22 (groups - passed) ≡ may_finish (job_with marks)
    unfolding header_of groups_of
    may_not_yet l = (λ i. refused 22 (all i - passed)) ∙ sym (may_22 (job_with marks) (sym good) (omega arith))

    pub may_now : groups ≤ passed → accepted tt ≡ may_finish (job_with marks)
    unfolding header_of groups_of
    may_now l = sym (may_on (job_with marks) (sym good) (omega arith))

  -- a job that may be finished has accepted cells
  pub may_good : (marks : List ℕ) → accepted tt ≡ may_finish (job_with marks) → accepted tt ≡ full_cells h.levels h.inputs inks
  unfolding may_finish answers.onward header_of
  may_good marks e = go (full_cells h.levels h.inputs inks) refl
    where
      go : (a : answers.Answer (Unit {0})) → full_cells h.levels h.inputs inks ≡ a → accepted tt ≡ full_cells h.levels h.inputs inks
      go (answers.accepted _) d = sym d
      go (answers.refused number place) d = absurd (not_refused tt number place (e ∙ may_refused (job_with marks) number place d))

  -- so its table keeps the rules and is full
  pub may_given : (marks : List ℕ) → accepted tt ≡ may_finish (job_with marks) → Given lines h inks
  unfolding header_of
  may_given marks e =
      let good = may_good marks e in
      record {
        names = names_inside lines h is.held;
        kept = record {
          header = job_front_kept lines h is;
          count = (cells_sized h.levels h.inputs inks good).1;
          within = λ k l. omega (arith, cells_below h.levels h.inputs inks good k l);
        };
        full = cells_below h.levels h.inputs inks good;
      }

  module _ (marks cells buffer output : List ℕ) where
    pub finished_not : (number place : ℕ) → refused number place ≡ may_finish (job_with marks)
        → record { answer = refused number place; cells = cells; marks = buffer; output = output } ≡ (finish_job (job_with marks) cells buffer output).made
    finished_not number place e = sym (ap (λ (f : Finished). f.made) (finish_refused (job_with marks) cells buffer output number place (sym e)))

    pub finished_made : accepted tt ≡ may_finish (job_with marks)
        → made_into settled_net (table_in lines h inks) cells buffer output ≡ (finish_job (job_with marks) cells buffer output).made
    finished_made e = sym (ap (λ (f : Finished). f.made) (finish_on (job_with marks) cells buffer output (sym e)))

-- the job of these parts is such a job
pub finish_front : (lines : List ℕ) (h : Header) → Fronted lines h → (own marks : List ℕ) (passed count : ℕ) → count ≡ h.levels ^ h.inputs
    → (cells buffer output : List ℕ)
    → (finish_job (record { table = table_in lines h (take (count - 0) own); marks = take (2 ^ h.inputs) marks; passed = passed }) cells buffer output).made
    ≡ (finish_job (job_in lines own marks passed) cells buffer output).made
finish_front lines h is own marks passed count all cells buffer output =
    ap (λ (k : ℕ). (finish_job (record { table = table_in lines h (take k own); marks = take (2 ^ h.inputs) marks; passed = passed }) cells buffer output).made)
    (sub-zero count ∙ all)
    ∙ ap (λ (job : Job). (finish_job job cells buffer output).made) (sym (front_job lines h is own marks passed))
