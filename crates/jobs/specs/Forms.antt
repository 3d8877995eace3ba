-- What a job by value represents. Every value of the struct represents a job. Its lines are read like a table sheet's first lines, up to the space
-- after the last name; if they are refused, the job has no inputs. Its inks and marks are at the front of their arrays.
-- Assumes nothing.
use Rattle.std.specs.Prelude.{◌≤◌, ◌^◌, ◌≡◌, Result, Ok, Err}
use Rattle.laws.specs.Prelude.{ℕ, sym, List, take, pow_mono}
use Rattle.rules.specs.Limits.{most_inputs}
use Rattle.rules.specs.Text.{space}
use Rattle.rules.specs.Sheets.Fields.{read, turned_back}
use Rattle.rules.specs.Sheets.Sheets as sheets
use Rattle.rules.specs.Sheets.Sheets.{Table, header_lines}
use Rattle.rules.specs.Sheets.SheetRules.{HeaderRules}
use Rattle.rules.specs.Calls.Jobs as rules
use Rattle.rules.specs.Calls.Jobs.{no_table_of}
use Rattle.laws.specs.Numbers.Sizes.{Size, sized, kept_size}
use Rattle.readback.specs.Readers.Fields.{parts_space}
use Rattle.readback.specs.Sheets.Header.{spells_header}
use Rattle.nets.specs.declared.forms.Header.{Header}
use Rattle.nets.specs.Forms.{header_of, table_in}
use Rattle.fields.specs.Header.FirstLines.{HeaderHeld, HeaderRest}
use Rattle.fields.specs.declared.header.name_line.HeaderRead.{HeaderRead}
use Rattle.answers.specs.declared.refusal.Refusal.{Refusal}
use Rattle.jobs.specs.declared.job.Job.{Job}

-- the number of bytes for a job's first lines, and the number of groups of the most inputs
abbrev pub most_lines : ℕ
most_lines = 128

abbrev pub most_groups : ℕ
most_groups = 2 ^ most_inputs

-- the table with these first lines and cells
unfoldable pub table_from : List ℕ → List ℕ → Table
table_from lines cells =
    elim (header_lines space lines 0) [
      | read h rest place ↦ record { header = h; inks = take (h.levels ^ h.inputs) cells }
      | turned_back number place ↦ no_table_of
    ]

-- the job with these parts
unfoldable pub job_in : List ℕ → List ℕ → List ℕ → ℕ → rules.Job
job_in lines cells marks passed =
    let t = table_from lines cells in
    record { table = t; marks = take (2 ^ t.header.inputs) marks; passed = passed }

abbrev pub job_of : Job → rules.Job
job_of job = job_in job.lines job.cells job.marks job.passed

-- a header that keeps the rules has room for its groups
pub job_groups_room : (h : sheets.Header) → HeaderRules h → 2 ^ h.inputs ≤ most_groups
job_groups_room h kept = pow_mono (kept_size h kept).inputs_most

-- ---- lines that are a sheet's first lines

-- the lines are read as the header h
pub record Fronted (lines : List ℕ) (h : Header) : Type 0 where
  pub rest : List ℕ
  pub place : ℕ
  pub reads : header_lines space lines 0 ≡ read (header_of lines h) rest place
  pub held : HeaderHeld lines h

module _ (lines : List ℕ) (r : Result HeaderRead Refusal) (did : HeaderRest lines 0 (header_lines space) r) where
  pub fronted : (found : HeaderRead) → r ≡ Ok found → Fronted lines found.header
  fronted found e = record { rest = _; place = found.next; reads = sym (rw e at did.reads); held = did.held found e }

  -- if they are refused, there is no table
  pub not_fronted : (e : Refusal) → r ≡ Err e → (cells : List ℕ) → table_from lines cells ≡ no_table_of
  unfolding table_from
  not_fronted e is cells = rw (sym (rw is at did.reads), table_from)

module _ (lines : List ℕ) (h : Header) (is : Fronted lines h) where
  pub front_size : Size h.levels h.inputs
  front_size = sized h.levels h.inputs is.held.fits

  pub job_front_table : (cells : List ℕ) → table_from lines cells ≡ table_in lines h (take (h.levels ^ h.inputs) cells)
  unfolding table_from header_of
  job_front_table cells = rw (is.reads, table_from)

  pub front_job : (cells marks : List ℕ) (passed : ℕ)
      → job_in lines cells marks passed
      ≡ record { table = table_in lines h (take (h.levels ^ h.inputs) cells); marks = take (2 ^ h.inputs) marks; passed = passed }
  unfolding job_in header_of
  front_job cells marks passed = λ i. let t = job_front_table cells i in record { table = t; marks = take (2 ^ t.header.inputs) marks; passed = passed }

  -- the header keeps the rules
  pub job_front_kept : HeaderRules (header_of lines h)
  job_front_kept =
      let (x, e, _, _) = (spells_header space parts_space).only lines 0 (header_of lines h) is.rest is.place is.reads in
      rw e x.1

  pub front_groups : 2 ^ h.inputs ≤ most_groups
  unfolding header_of
  front_groups = job_groups_room (header_of lines h) job_front_kept
