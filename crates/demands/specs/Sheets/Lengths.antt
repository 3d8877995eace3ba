-- The lengths that include/sitgurp.h calls "Buffers that always suffice: cells, marks, a net sheet, a table sheet." Each is at least what
-- any accepted sheet needs, so with buffers of these lengths no call refuses with 13, 14 or 15.
-- Assumes nothing.
use Rattle.std.specs.Prelude.{◌≤◌, ◌^◌, ◌≡◌, ◌∷◌}
use Rattle.laws.specs.Prelude.{ℕ, ◌∙◌, sym, ap, refl, subst₂, List, [], le_trans, arith, length, test_cases, answer_cases}
use Rattle.rules.specs.Calls.Answers.{Answer, accepted, refused, Named, net_named, table_named, neither}
use Rattle.rules.specs.Calls.Checking.{turned_down, same_header, compared, Checked, check_call}
use Rattle.rules.specs.Calls.OpenCells.{full_cells, read_full}
use Rattle.rules.specs.Calls.Settling.{Made, settle_call, make_call}
use Rattle.rules.specs.Groups.Marks.{marks_length}
use Rattle.rules.specs.Limits.{cells_fit_of, most_cells, most_settled, most_table_sheet}
use Rattle.rules.specs.Lists.{range, all, any}
use Rattle.rules.specs.Sheets.Printed.{printed_table}
use Rattle.rules.specs.Sheets.Reading.{read_net, read_table, table_of_net}
use Rattle.rules.specs.Sheets.SheetRules.{HeaderRules}
use Rattle.rules.specs.Sheets.Sheets.{Header, Net, Table}
use Rattle.rules.specs.Calls.Marking.{Marked, marking_call}
use Rattle.rules.specs.Calls.TableWriting.{Written, write_table_call}
use Rattle.laws.specs.Lists.Distinct.{In, wider}
use Rattle.laws.specs.Numbers.Sizes.{Size, sized, kept_size, every_size, bounded_at}
use Rattle.laws.specs.Calls.Settling.{settle_refused, make_refused}
use Rattle.laws.specs.Calls.Checking.{check_net_refused, check_table_refused, check_accepted, check_12, check_compared, Compared, all_agree}
use Rattle.laws.specs.Calls.Checking.{first_differs, comparison}
use Rattle.laws.specs.Calls.TableWriting.{table_refused, table_written}
use Rattle.readback.specs.Readers.Numbers.{net_numbers, table_numbers, net_refusal, table_refusal}
use Rattle.readback.specs.Sheets.ReadBack.{net_accepted, table_accepted}
use Rattle.readback.specs.Sheets.Length.{net_length}
use Rattle.readback.specs.Tables.TableLength.{table_length}
use Rattle.demands.specs.Settling.AnyStore.{four_to_byte, marking_is, marking_bare, by_marks}
use Rattle.demands.specs.Settling.Settles.{sheet_in, sheet_of, Long, settles, settled_short}
use Rattle.laws.specs.Calls.Answers.{not_refused}
use Rattle.trees.specs.Trees.NetTables.{kept_table}
use Rattle.demands.specs.Sheets.FullSheets.{full_numbers, full_accepted, full_refusal}
use Rattle.demands.specs.Numbers.Numbers.{Gives, refuses, cells_numbers}
use Rattle.demands.specs.Settling.Makes.{Making, no_tree_lem, some_tree, made_short, make_either}
use Rattle.laws.specs.Calls.OpenCells.{cells_sized}

-- ---- what is needed

-- SITGURP_MOST_MARKS; the other three are `most_cells`, `most_settled` and `most_table_sheet`
abbrev pub most_marks : ℕ
most_marks = 1_024

-- enough marks at every size that a sheet, or bare cells, may have
pub size_marks : (m n : ℕ) → Size m n → marks_length n ≤ most_marks
unfolding every_size all range cells_fit_of marks_length
size_marks = bounded_at (λ _ n. marks_length n) most_marks refl

-- "Needed: m to the n bytes", and for the marks "2 to the n, divided by 4" (document 02, K7): enough cells and marks for each accepted sheet
module _ (h : Header) (kept : HeaderRules h) where
  pub kept_cells : h.levels ^ h.inputs ≤ most_cells
  kept_cells = (kept_size h kept).cells_most

  pub kept_marks : marks_length h.inputs ≤ most_marks
  kept_marks = size_marks h.levels h.inputs (kept_size h kept)

-- An accepted net sheet, and the table sheet written from it. (Its settled sheet: `settled_short`.)
module _ (s : List ℕ) (net : Net) (reads : read_net s ≡ accepted net) where
  pub net_sheet_short : length s ≤ most_settled
  net_sheet_short =
      let (e, kept) = net_accepted s net reads in
      rw e (net_length net kept)

  pub written_table_short : length (printed_table (table_of_net net)) ≤ most_table_sheet
  written_table_short = table_length (table_of_net net) (kept_table net (net_accepted s net reads).1)

-- An accepted table sheet. (The sheet made of it: `made_short`.)
pub table_sheet_short : (s : List ℕ) (t : Table) → read_table s ≡ accepted t → length s ≤ most_table_sheet
table_sheet_short s t reads =
    let (e, kept) = table_accepted s t reads in
    rw e (table_length t kept)

-- ---- buffers that always suffice

-- for settling and making
pub record Ample (cells marks output : List ℕ) : Type 0 where
  pub cells_most : most_cells ≤ length cells
  pub marks_most : most_marks ≤ length marks
  pub output_most : most_settled ≤ length output

-- a call that left a sheet did not refuse
pub no_refusal : (made : Made) (sheet : List ℕ) (number place : ℕ) → sheet_of made ≡ accepted sheet → made.answer ≡ refused number place → ⊥
unfolding sheet_in
no_refusal made sheet number place e d = not_refused sheet number place (sym e ∙ ap (λ (a : Answer ℕ). sheet_in a made.output) d)

-- making's numbers without 13, 14 and 15
abbrev pub table_or_tree : List ℕ
table_or_tree = 1 ∷ 2 ∷ 3 ∷ 4 ∷ 5 ∷ 6 ∷ 27 ∷ 16 ∷ []

module _ (s cells marks output : List ℕ) (ample : Ample cells marks output) where
  -- they are long enough for every accepted net sheet, ..
  pub settle_ample : (net : Net) → read_net s ≡ accepted net → Long (table_of_net net) cells marks output
  unfolding table_of_net
  settle_ample net reads =
      let kept = (net_accepted s net reads).1.header in
      record {
        cells_fit = le_trans (kept_cells net.header kept) ample.cells_most;
        marks_fit = le_trans (kept_marks net.header kept) ample.marks_most;
        output_fits = le_trans (settled_short s net reads) ample.output_most;
      }

  -- .. and for every accepted sheet of a full table
  pub make_ample : (t : Table) → read_full s ≡ accepted t → Making t (make_call s cells marks output)
  make_ample t reads =
      let kept = (full_accepted s t reads).1.header in
      make_either s t reads cells marks output (le_trans (kept_cells t.header kept) ample.cells_most)
      (le_trans (kept_marks t.header kept) ample.marks_most)
      (λ tree. le_trans (made_short s t reads tree) ample.output_most)

  -- settling refuses only with the numbers of its sheet, ..
  pub settle_ample_numbers : Gives net_numbers (settle_call s cells marks output).answer
  settle_ample_numbers number place e = answer_cases (read_net s)
      (λ k at d. refuses net_numbers k at (net_refusal s k at d) number place
      (sym (ap (λ (made : Made). made.answer) (settle_refused s cells marks output k at d)) ∙ e))
      (λ net d. absurd (no_refusal (settle_call s cells marks output) _ number place (settles s net d cells marks output (settle_ample net d)) e))

  -- .. and making with those and 16
  pub make_ample_numbers : Gives table_or_tree (make_call s cells marks output).answer
  unfolding any all
  make_ample_numbers number place e = answer_cases (read_full s)
      (λ k at d. refuses table_or_tree k at (wider full_numbers table_or_tree refl k (full_refusal s k at d)) number place
      (sym (ap (λ (made : Made). made.answer) (make_refused s cells marks output k at d)) ∙ e))
      (λ t d. made t (make_ample t d))
    where
      made : (t : Table) → Making t (make_call s cells marks output) → In number table_or_tree
      made t (no_tree_lem _ answer) = refuses table_or_tree 16 _ refl number place (sym answer ∙ e)
      made t (some_tree _ sheet) = absurd (no_refusal (make_call s cells marks output) _ number place sheet e)

-- table writing refuses only with the numbers of its sheet
pub write_table_ample_numbers : (s output : List ℕ) → most_table_sheet ≤ length output → Gives net_numbers (write_table_call s output).answer
write_table_ample_numbers s output ample number place e = answer_cases (read_net s)
    (λ k at d. refuses net_numbers k at (net_refusal s k at d) number place (answer _ (table_refused s output k at d)))
    (λ net d. absurd (not_refused _ number place (answer _ (table_written s output net d (le_trans (written_table_short s net d) ample)))))
  where
    answer : (made : Written) → write_table_call s output ≡ made → made.answer ≡ refused number place
    answer made d = sym (ap (λ (w : Written). w.answer) d) ∙ e

-- ---- checking

-- checking's numbers without 13
abbrev pub check_ample_numbers : Named → List ℕ
check_ample_numbers net_named = net_numbers
check_ample_numbers table_named = table_numbers
check_ample_numbers neither = 12 ∷ []

module _ (s r cells : List ℕ) (ample : most_cells ≤ length cells) where
  -- checking refuses with the numbers of its two sheets and 12
  pub check_ample_numbers_lem : (named : Named) (number place : ℕ) → (check_call s r cells).answer ≡ turned_down named number place
      → In number (check_ample_numbers named)
  unfolding any
  check_ample_numbers_lem named number place e = go (read_net s) refl (read_table r) refl
    where
      answer : (made : Checked) → check_call s r cells ≡ made → made.answer ≡ turned_down named number place
      answer made d = sym (ap (λ (c : Checked). c.answer) d) ∙ e

      turned : (named' : Named) (k at : ℕ) → In k (check_ample_numbers named') → turned_down named' k at ≡ turned_down named number place
          → In number (check_ample_numbers named)
      turned named' k at h d =
          subst₂ (λ (w : Named) (j : ℕ). In j (check_ample_numbers w)) (let z : named' ≡ named = cc in z) (let z : k ≡ number = cc in z) h

      inks : (m : ℕ) (xs ys : List ℕ) → Compared m xs ys → compared m xs ys ≡ turned_down named number place → ⊥
      inks m xs ys (all_agree a _) d = let z : ◌≡◌ {A = ℕ} 0 1 = cc in omega arith
      inks m xs ys (first_differs k a _ _ _ _) d = let z : ◌≡◌ {A = ℕ} 0 1 = cc in omega arith

      go : (a : Answer Net) → read_net s ≡ a → (b : Answer Table) → read_table r ≡ b → In number (check_ample_numbers named)
      go (refused k at) d b f = turned net_named k at (net_refusal s k at d) (answer _ (check_net_refused s r cells k at d))
      go (accepted net) d (refused k at) f = turned table_named k at (table_refusal r k at f) (answer _ (check_table_refused s r cells net d k at f))
      go (accepted net) d (accepted t) f =
          let both = check_accepted s r cells net d t f in
          test_cases (same_header net.header t.header)
          (λ h. absurd (inks _ _ t.inks (comparison _ _ t.inks) (answer _ (both ∙ check_compared net t cells h fits))))
          (λ h. turned neither 12 0 refl (answer _ (both ∙ check_12 net t cells h)))
        where
          fits : length t.inks ≤ length cells
          fits =
              let kept = (table_accepted r t f).1 in
              rw kept.count (le_trans (kept_cells t.header kept.header) ample)

-- ---- marking

-- marking's numbers without 14
abbrev pub bare_numbers : List ℕ
bare_numbers = 9 ∷ 10 ∷ 27 ∷ []

module _ (m n : ℕ) (cells marks : List ℕ) (ample : most_marks ≤ length marks) where
  -- marking refuses only with the numbers of its cells
  pub marking_ample_numbers : Gives bare_numbers (marking_call m n cells marks).answer
  unfolding marking_call any
  marking_ample_numbers number place e = answer_cases (full_cells m n cells)
      (λ k at d. refuses bare_numbers k at (cells_numbers m n cells bare_numbers refl refl refl k at d) number place
      (sym (ap (λ (made : Marked). made.answer) (marking_bare m n cells marks k at d)) ∙ e))
      (λ _ d.
      let long = le_trans (size_marks m n (sized m n (cells_sized m n cells (sym d)).0)) ample in
      let marked = marking_is m n cells marks ∙ by_marks four_to_byte m n cells marks d long in
      absurd (not_refused _ number place (sym (ap (λ (made : Marked). made.answer) marked) ∙ e)))
