-- The bytes of a newly opened job: its first lines, its inks and its marks at the front of their arrays, and zeros after them. They represent the job
-- that is opened.
-- Assumes nothing.
use Rattle.std.specs.Prelude.{◌≤◌, ◌+◌, ◌-◌, ◌^◌, ◌*◌, ◌≡◌, ◌∷◌, ◌++◌}
use Rattle.laws.specs.Prelude.{ℕ, suc, ◌∙◌, sym, ap, refl, List, [], map, append_assoc, arith, length, take, drop}
use Rattle.laws.specs.Prelude.{length-append, replicate, length-replicate, replicate-append-replicate, take_at}
use Rattle.rules.specs.Lists.{range}
use Rattle.rules.specs.Limits.{most_cells}
use Rattle.rules.specs.Text.{space, newline, text, decimal}
use Rattle.rules.specs.Sheets.Fields.{read, turned_back}
use Rattle.rules.specs.Sheets.Sheets as sheets
use Rattle.rules.specs.Sheets.Sheets.{Table, header_lines}
use Rattle.rules.specs.Sheets.Printed.{line}
use Rattle.rules.specs.Sheets.SheetRules.{GoodNames, HeaderRules, TableRules}
use Rattle.rules.specs.Calls.Answers.{accepted, refused, written}
use Rattle.rules.specs.Calls.OpenCells.{read_full}
use Rattle.rules.specs.Calls.Jobs.{no_table_of, new_job, empty_job}
use Rattle.rules.specs.Evaluation.{computing}
use Rattle.laws.specs.Calls.Answers.{written_front}
use Rattle.laws.specs.Numbers.Decimals.{decimal_length}
use Rattle.laws.specs.Numbers.Sizes.{kept_size}
use Rattle.readback.specs.Readers.Fields.{parts_space}
use Rattle.readback.specs.Readers.Judges.{name_parts}
use Rattle.readback.specs.Readers.Names.{ended}
use Rattle.readback.specs.Sheets.Header.{head_text, spells_header}
use Rattle.nets.specs.declared.forms.Header.{Header}
use Rattle.nets.specs.Forms.{name_in, header_of, table_in}
use Rattle.net_sheets.specs.Text.Lines.{spaced, spaced_from, spaced_all}
use Rattle.net_sheets.specs.Text.Names.{NamesInside}
use Rattle.net_sheets.specs.Text.Put.{PutRoom, NetLeft, parts_left, room_for}
use Rattle.accepted.specs.Taken.{Given}
use Rattle.jobs.specs.Forms.{most_lines, most_groups, table_from, job_in, job_of, job_groups_room}
use Rattle.jobs.specs.declared.job.Job.{Job}

-- ---- the bytes

-- the first lines, with a space after each name
unfoldable pub lines_of : sheets.Header → List ℕ
lines_of h = written (replicate most_lines 0) (head_text space h)

unfoldable pub cells_of : List ℕ → List ℕ
cells_of inks = written (replicate most_cells 0) inks

unfoldable pub new_bytes : Table → Job
new_bytes t = record { lines = lines_of t.header; cells = cells_of t.inks; marks = replicate most_groups 0; passed = 0 }

unfoldable pub no_bytes : Job
no_bytes = record { lines = replicate most_lines 0; cells = replicate most_cells 0; marks = replicate most_groups 0; passed = 0 }

unfoldable pub opened_bytes : List ℕ → Job
opened_bytes s = elim (read_full s) [ refused number place ↦ no_bytes | accepted t ↦ new_bytes t ]

-- ---- the first lines

-- names with a space after each
ended_spaced : (ws : List (List ℕ)) → ended space ws ≡ spaced ws
unfolding ended spaced
ended_spaced [] = refl
ended_spaced (w ∷ []) = refl
ended_spaced (w ∷ v ∷ ws) =
    append_assoc w (space ∷ []) (ended space (v ∷ ws)) ∙ ap {B = List ℕ} (λ (r : List ℕ). w ++ (space ∷ r)) (ended_spaced (v ∷ ws))

-- the text, split into the parts in which it is written
head_parts : (s : List ℕ) (h : Header) → head_text space (header_of s h)
    ≡ (line (text "levels" ∷ text "inputs" ∷ []) ++ line (decimal h.levels ∷ decimal h.inputs ∷ [])) ++ spaced_from (name_in s h) 0 h.inputs
unfolding head_text header_of
head_parts s h =
    ap (λ (r : List ℕ). (line (text "levels" ∷ text "inputs" ∷ []) ++ line (decimal h.levels ∷ decimal h.inputs ∷ [])) ++ r)
    (ended_spaced (map (name_in s h) (range 0 h.inputs)) ∙ spaced_all (name_in s h) h.inputs)

-- at most 8 bytes and a space for each name
spaced_length : (ws : List (List ℕ)) → GoodNames ws → length (spaced ws) ≤ 9 * length ws
unfolding spaced
spaced_length [] g = omega arith
spaced_length (w ∷ ws) g =
    let (l, _, _) = name_parts w g.0 in
    let rest = spaced_length ws g.2 in
    rw length-append (omega arith)

-- the first two lines
pair_length : (a b : List ℕ) → length (line (a ∷ b ∷ [])) ≡ length a + length b + 2
unfolding line
pair_length a b = length-append a (space ∷ (b ++ (newline ∷ []))) ∙ ap (λ (k : ℕ). length a + suc k) (length-append b (newline ∷ [])) ∙ omega arith

words_length : length (line (text "levels" ∷ text "inputs" ∷ [])) ≡ 14
unfolding text
words_length = pair_length (text "levels") (text "inputs")

-- so there is room for them
pub head_room : (h : sheets.Header) → HeaderRules h → length (head_text space h) ≤ most_lines
unfolding head_text
head_room h kept =
    let words : List ℕ = line (text "levels" ∷ text "inputs" ∷ []) in
    let values : List ℕ = line (decimal h.levels ∷ decimal h.inputs ∷ []) in
    let size = kept_size h kept in
    let whole = length-append (words ++ values) (ended space h.names) in
    let front = length-append words values in
    let a = decimal_length 1 h.levels (omega (arith, size.levels_most)) in
    let b = decimal_length 1 h.inputs (omega (arith, size.inputs_most)) in
    let pair = pair_length (decimal h.levels) (decimal h.inputs) in
    let names = ap length (ended_spaced h.names) in
    let each = spaced_length h.names kept.names in
    omega (arith, whole, front, words_length, a, b, pair, names, each, kept.count, size.inputs_most)

-- what writing them requires
pub record OwnLines (s : List ℕ) (h : Header) : Type 0 where
  pub names : NamesInside s h
  pub room : length (head_text space (header_of s h)) ≤ most_lines

-- the first two
abbrev pub first_two : Header → List ℕ
first_two h = line (text "levels" ∷ text "inputs" ∷ []) ++ line (decimal h.levels ∷ decimal h.inputs ∷ [])

module _ (s : List ℕ) (h : Header) (asks : OwnLines s h) where
  -- at first all of them are left to write
  pub lines_left : NetLeft (replicate most_lines 0) 0 (first_two h ++ spaced_from (name_in s h) 0 h.inputs) (replicate most_lines 0) 0
      (head_text space (header_of s h))
  lines_left = parts_left (head_parts s h) (omega (arith, asks.room))

  pub first_two_room : PutRoom (replicate most_lines 0) 0 (first_two h)
  first_two_room = room_for (first_two h) (spaced_from (name_in s h) 0 h.inputs) lines_left

pub own_lines : (s : List ℕ) (h : Header) (inks : List ℕ) → Given s h inks → OwnLines s h
own_lines s h inks given = record { names = given.names; room = head_room (header_of s h) given.kept.header }

-- ---- a new job, part by part

module _ (s : List ℕ) (h : Header) (inks : List ℕ) where
  pub own_room : Given s h inks → length inks ≤ most_cells
  unfolding header_of
  own_room given = omega (arith, given.kept.count, (kept_size (header_of s h) given.kept.header).cells_most)

  pub new_bytes_lem : (lines cells : List ℕ) → lines ≡ lines_of (header_of s h) → cells ≡ cells_of inks
      → record { lines = lines; cells = cells; marks = replicate most_groups 0; passed = 0 } ≡ new_bytes (table_in s h inks)
  unfolding new_bytes header_of
  new_bytes_lem lines cells e d = λ i. record { lines = e i; cells = d i; marks = replicate most_groups 0; passed = 0 }

-- what the bytes represent

take_zeros : (k most : ℕ) → k ≤ most → take {A = ℕ} k (replicate most 0) ≡ replicate k 0
take_zeros k most h =
    let all : k + (most - k) ≡ most = omega arith in
    ap (λ (j : ℕ). take {A = ℕ} k (replicate j 0)) (sym all)
    ∙ ap (take {A = ℕ} k) (sym (replicate-append-replicate k (most - k) 0))
    ∙ take_at {A = ℕ} (replicate k 0) (replicate (most - k) 0) k (length-replicate k 0)

module _ (t : Table) (kept : TableRules t) where
  new_table : table_from (lines_of t.header) (cells_of t.inks) ≡ t
  unfolding table_from lines_of cells_of written
  new_table =
      let text = head_text space t.header in
      let rest : List ℕ = drop (length text) (replicate most_lines 0) in
      let (place, e) = (spells_header space parts_space).back (t.header, kept.header) rest 0 tt in
      let inks : take (t.header.levels ^ t.header.inputs) (written (replicate most_cells 0) t.inks) ≡ t.inks =
      ap (λ (k : ℕ). take k (written (replicate most_cells 0) t.inks)) (sym kept.count) ∙ written_front _ _ in
      go rest place e inks
    where
      go : (rest : List ℕ) (place : ℕ) → header_lines space (head_text space t.header ++ rest) 0 ≡ read t.header rest place
          → take (t.header.levels ^ t.header.inputs) (cells_of t.inks) ≡ t.inks
          → table_from (head_text space t.header ++ rest) (cells_of t.inks) ≡ t
      go rest place e inks = rw (e, table_from) (λ i. record { header = t.header; inks = inks i })

  pub new_job_lem : job_of (new_bytes t) ≡ new_job t
  unfolding new_bytes job_in new_job
  new_job_lem =
      (λ i. let own = new_table i in record { table = own; marks = take (2 ^ own.header.inputs) (replicate most_groups 0); passed = 0 })
      ∙ (λ i. record { table = t; marks = take_zeros (2 ^ t.header.inputs) most_groups (job_groups_room t.header kept.header) i; passed = 0 })

-- zeros are not first lines
zeros_lines : header_lines space (replicate most_lines 0) 0 ≡ turned_back 1 0
unfolding computing
zeros_lines = refl

no_table : table_from (replicate most_lines 0) (replicate most_cells 0) ≡ no_table_of
unfolding table_from
no_table = rw (zeros_lines, table_from)

pub opened_empty_job : job_of no_bytes ≡ empty_job
unfolding no_bytes job_in empty_job new_job no_table_of
opened_empty_job = λ i. let t = no_table i in record { table = t; marks = take (2 ^ t.header.inputs) (replicate most_groups 0); passed = 0 }
