-- A step to the next group, in the bytes of a job.
-- Assumes nothing.
use Rattle.std.specs.Prelude.{◌<◌, ◌≤◌, ◌+◌, ◌-◌, ◌^◌, ◌≡◌, ◌∷◌, ◌++◌, Option, Some, None}
use Rattle.laws.specs.Prelude.{ℕ, suc, zero, ◌∙◌, sym, ap, refl, true, ap₂, List, [], sub-zero, arith, length, take}
use Rattle.laws.specs.Prelude.{drop, set, length-set, take-append-drop, length-take-le, drop-set-lt, pow_mono}
use Rattle.rules.specs.Limits.{size_fits, most_levels}
use Rattle.rules.specs.Sheets.Sheets.{Table}
use Rattle.rules.specs.Groups.Groups.{whole_group}
use Rattle.rules.specs.Groups.Marks.{mark_of}
use Rattle.rules.specs.Calls.Answers.{ink_in, written}
use Rattle.rules.specs.Calls.Jobs as rules
use Rattle.rules.specs.Calls.Jobs.{no_table_of, groups_of, further}
use Rattle.laws.specs.Numbers.Sizes.{sized}
use Rattle.classes.specs.Within.{OffsetRoom}
use Rattle.nets.specs.declared.forms.Header.{Header}
use Rattle.nets.specs.Forms.{header_of}
use Rattle.jobs.specs.Forms.{most_groups, table_from, job_in, Fronted, job_front_table, front_job, front_groups}
use Rattle.jobs.specs.declared.job.Job.{Job}

-- the mark of the next group of a table, from the marks of those below it
abbrev pub next_mark : rules.Job → ℕ
next_mark job =
    let t = job.table in
    mark_of t.header.levels t.header.inputs (ink_in t.inks) job.marks (job.passed + 1)

-- the result for the next group: this is its mark, or all groups have been passed
abbrev pub NextMark : rules.Job → Option ℕ → Type 0
NextMark job None = groups_of job ≤ job.passed
NextMark job (Some mark) = (job.passed < groups_of job) × (job.passed + 1 < most_groups) × (mark ≡ next_mark job)

-- the bytes with that mark
unfoldable pub with_mark : Job → ℕ → Job
with_mark job mark =
    record { lines = job.lines; cells = job.cells; marks = set job.marks (job.passed + 1) mark; passed = job.passed + 1 }

-- the bytes when the job is `to`
unfoldable pub after : Job → rules.Job → Job
after job to = record { lines = job.lines; cells = job.cells; marks = written job.marks to.marks; passed = to.passed }

-- ---- the marks at the front of their array

module _ {A : Type 0} where
  take_set : (k : ℕ) (l : List A) (i : ℕ) (a : A) → take k (set l i a) ≡ set (take k l) i a
  take_set zero l i a = refl
  take_set (suc k) [] i a = refl
  take_set (suc k) (x ∷ xs) zero a = refl
  take_set (suc k) (x ∷ xs) (suc i) a = ap (λ (r : List A). x ∷ r) (take_set k xs i a)

  front_rest : (k : ℕ) (l : List A) → drop (length (take k l)) l ≡ drop k l
  front_rest zero l = refl
  front_rest (suc k) [] = refl
  front_rest (suc k) (x ∷ xs) = front_rest k xs

written_same : (k : ℕ) (l : List ℕ) → written l (take k l) ≡ l
unfolding written
written_same k l = ap (λ (r : List ℕ). take k l ++ r) (front_rest k l) ∙ take-append-drop k l

written_set : (k : ℕ) (l : List ℕ) (i a : ℕ) → i < k → written l (set (take k l) i a) ≡ set l i a
unfolding written
written_set k l i a h =
    ap (λ (j : ℕ). set (take k l) i a ++ drop j l) (length-set (take k l) i a)
    ∙ ap₂ (λ (f r : List ℕ). f ++ r) (sym (take_set k l i a)) (front_rest k l ∙ sym (drop-set-lt k l i a h))
    ∙ take-append-drop k (set l i a)

-- ---- a step

module _ (lines cells marks : List ℕ) (passed : ℕ) where
  abbrev job : rules.Job
  job = job_in lines cells marks passed

  -- the marks are unchanged, ..
  pub marks_same : marks ≡ written marks job.marks
  unfolding job_in
  marks_same = sym (written_same (2 ^ (table_from lines cells).header.inputs) marks)

  -- .. or one is written
  module _ (on : passed < groups_of job) (mark : ℕ) (is : mark ≡ next_mark job) where
    pub marks_further : set marks (passed + 1) mark ≡ written marks (further job).marks
    unfolding job_in further groups_of
    marks_further = sym (written_set (2 ^ (table_from lines cells).header.inputs) marks (passed + 1) mark (omega arith))
        ∙ ap (λ (v : ℕ). written marks (set job.marks (passed + 1) v)) is

    pub job_further : job_in lines cells (set marks (passed + 1) mark) (passed + 1) ≡ further job
    unfolding job_in further
    job_further =
        (λ i. record {
          table = table_from lines cells;
          marks = take_set (2 ^ (table_from lines cells).header.inputs) marks (passed + 1) mark i;
          passed =
              passed + 1;
        })
        ∙ (λ i. record { table = table_from lines cells; marks = set job.marks (passed + 1) (is i); passed = passed + 1 })

-- the next group, as the code finds it

-- a slice from 0
pub part_length : (k : ℕ) (l : List ℕ) → k ≤ length l → length (take (k - 0) l) ≡ k
part_length k l h = ap (λ (j : ℕ). length (take j l)) (sub-zero k) ∙ length-take-le k l h

-- the whole group's number is one less than the number of groups
pub whole_group_lem : (n past : ℕ) → past ≡ 2 ^ n → (g : ℕ) → past - 1 ≡ g → g ≡ whole_group n
unfolding whole_group
whole_group_lem n past e g is = sym is ∙ ap (λ (k : ℕ). k - 1) e

pub whole_some : (n : ℕ) → 0 < n → (g : ℕ) → g ≡ whole_group n → 0 < g
unfolding whole_group
whole_some n some g is = omega (arith, pow_mono some)

-- what marking group g of m levels and n inputs requires
pub record MarkReady (m n : ℕ) (inks : List ℕ) (g : ℕ) (marks : List ℕ) : Type 0 where
  pub fits : size_fits m n ≡ true
  pub count : length inks ≡ m ^ n
  pub group : g < 2 ^ n
  pub room : 2 ^ n ≤ length marks

-- work arrays as long as the table have room
pub mark_room : (m n : ℕ) (inks : List ℕ) (g : ℕ) (marks : List ℕ) → MarkReady m n inks g marks → (xs ys : List ℕ) → length inks ≤ length xs
    → length inks ≤ length ys → OffsetRoom m n inks xs ys × (m ≤ most_levels) × (g < 2 ^ n) × (g ≤ length marks)
mark_room m n inks g marks ready xs ys for_xs for_ys =
    let fit = sized m n ready.fits in
    let e = ready.count in (
      record {
        some = omega (arith, fit.levels_least);
        inputs = omega (arith, fit.inputs_most);
        small = omega (arith, fit.cells_most);
        for_cells = omega (arith, e);
        for_xs = omega (arith, e);
        for_ys = omega (arith, e);
      },
      fit.levels_most,
      ready.group,
      omega (arith, ready.group, ready.room),
    )

-- a job with no table
pub next_none : (lines cells marks : List ℕ) (passed : ℕ) → table_from lines cells ≡ no_table_of → NextMark (job_in lines cells marks passed) None
unfolding job_in groups_of no_table_of
next_none lines cells marks passed none =
    let no_groups : 2 ^ (table_from lines cells).header.inputs - 1 ≡ 0 = ap (λ (t : Table). 2 ^ t.header.inputs - 1) none in
    omega arith

module _ (lines : List ℕ) (h : Header) (is : Fronted lines h) (cells marks : List ℕ) (passed end : ℕ) (all : end ≡ 2 ^ h.inputs) where
  groups_are : groups_of (job_in lines cells marks passed) ≡ end - 1
  unfolding groups_of job_in header_of
  groups_are = ap (λ (t : Table). 2 ^ t.header.inputs - 1) (job_front_table lines h is cells) ∙ ap (λ (k : ℕ). k - 1) (sym all)

  pub next_done : end - 1 ≤ passed → NextMark (job_in lines cells marks passed) None
  unfolding job_in
  next_done l = omega (arith, groups_are)

  pub next_marked : passed < end - 1 → (count : ℕ) → count ≡ h.levels ^ h.inputs → (mark : ℕ)
      → mark ≡ mark_of h.levels h.inputs (ink_in (take (count - 0) cells)) (take (end - 0) marks) (passed + 1)
      → NextMark (job_in lines cells marks passed) (Some mark)
  unfolding job_in header_of
  next_marked l count own_cells mark e = (
    omega (arith, groups_are),
    omega (arith, all, front_groups lines h is),
    e
        ∙ (λ i. mark_of h.levels h.inputs (ink_in (take ((sub-zero count ∙ own_cells) i) cells)) (take ((sub-zero end ∙ all) i) marks) (passed + 1))
        ∙ ap next_mark (sym (front_job lines h is cells marks passed)),
  )
