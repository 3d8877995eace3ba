-- Document 02, K8, on tidying: "A strict sheet comes back unchanged, and a tidied sheet has, at each assignment, the ink of the row that named it.
-- Two accepted loose sheets with the same first three lines, spaces aside, tidy to equal bytes exactly when they give every assignment the same ink."
-- Assumes nothing.
use Rattle.std.specs.Prelude.{◌<◌, ◌≤◌, ◌^◌, ◌≡◌, ◌↔◌, ◌∷◌, ◌++◌}
use Rattle.laws.specs.Prelude.{ℕ, ◌∙◌, sym, ap, refl, subst, subst⁻¹, List, [], map, zero-add, lt_of_not-le, dec_le, arith}
use Rattle.laws.specs.Prelude.{ltb, length, get_or, take, length-append, take_at, by_cases}
use Rattle.rules.specs.Calls.Answers.{Answer, accepted, refused, written}
use Rattle.rules.specs.Lists.{range}
use Rattle.rules.specs.Sheets.Printed.{printed_table}
use Rattle.rules.specs.Sheets.Reading.{read_table}
use Rattle.rules.specs.Sheets.Sheets.{Header, Table, levels_at}
use Rattle.rules.specs.Text.{text, decimal}
use Rattle.rules.specs.Sheets.LooseSheet.{Row, LooseTable, read_loose, ink_named, table_of_loose, loose_fields, LooseRules}
use Rattle.rules.specs.Calls.Tidying.{Tidied, tidied_sheet, tidied_into, tidy_call}
use Rattle.laws.specs.Calls.Answers.{accepted_inj, not_refused, written_front}
use Rattle.laws.specs.Numbers.Assignments.{Assignment, index_of, index_of_below, levels_index}
use Rattle.laws.specs.Lists.Ranges.{map_range_same}
use Rattle.laws.specs.Lists.Tests.{by_test}
use Rattle.laws.specs.Calls.Tidying.{tidy_accepted, tidied_sheet_lem, tidied_15, tidied_written}
use Rattle.readback.specs.Readers.Decimals.{decimal_injective}
use Rattle.readback.specs.Sheets.ReadBack.{table_accepted, table_read_back}
use Rattle.readback.specs.Tables.LooseSheets.{loose_sheets_lem}
use Rattle.readback.specs.Tables.LooseTables.{ink_of_row_lem, row_of, all_named, ink_at_lem, index_named, loose_kept, in_order_of, strict_read, strict_same}
use Rattle.demands.specs.Numbers.Numbers.{by_answer}
use Rattle.demands.specs.Settling.Settles.{sheet_in}

-- the sheet that tidying wrote: "A call that writes a sheet answers its length, and the sheet is that many bytes from the front of the output."
abbrev pub tidied_text : Tidied → Answer (List ℕ)
tidied_text tidied = sheet_in tidied.answer tidied.output

-- buffers as long as a table needs
pub record LongTable (t : Table) (cells output : List ℕ) : Type 0 where
  pub cells_fit : t.header.levels ^ t.header.inputs ≤ length cells
  pub output_fits : length (printed_table t) ≤ length output

-- ---- every call

-- the sheet that is accepted is within the output
module _ (output : List ℕ) where
  abbrev Within : Tidied → Type 0
  Within tidied = (k : ℕ) → tidied.answer ≡ accepted k → k ≤ length output

  none_within : (number place : ℕ) (cells : List ℕ) → Within (record { answer = refused number place; cells = cells; output = output })
  none_within number place cells k e = absurd (not_refused k number place (sym e))

  sheet_within : (sheet cells : List ℕ) → Within (tidied_sheet sheet cells output)
  sheet_within sheet cells = by_cases (dec_le (length sheet) (length output))
      (λ h. subst⁻¹ Within (tidied_written sheet cells output h) (λ k e. let same : length sheet ≡ k = cc in omega arith))
      (λ h. subst⁻¹ Within (tidied_15 sheet cells output (lt_of_not-le h)) (none_within 15 _ cells))

  into_within : (t : Table) (cells : List ℕ) → Within (tidied_into t cells output)
  unfolding tidied_into
  into_within t cells =
      by_test Within (ltb (length cells) (t.header.levels ^ t.header.inputs)) _ _ (none_within 13 _ cells)
      (sheet_within (printed_table t) (written cells t.inks))

  pub tidy_within : (s cells : List ℕ) → Within (tidy_call s cells output)
  unfolding tidy_call
  tidy_within s cells =
      by_answer Within (read_loose s) _ _ (λ t _. into_within (table_of_loose t) cells) (λ number place _. none_within number place cells)

-- ---- strict sheets

-- "A strict sheet comes back unchanged": an accepted table sheet is an accepted loose one, and the call writes it again
module _ (s : List ℕ) (t : Table) (reads : read_table s ≡ accepted t) where
  pub strict_unchanged : (cells output : List ℕ) → t.header.levels ^ t.header.inputs ≤ length cells → length s ≤ length output
      → tidy_call s cells output ≡ record { answer = accepted (length s); cells = written cells t.inks; output = written output s }
  strict_unchanged cells output room fits =
      let is : s ≡ printed_table t = (table_accepted s t reads).0 in
      tidy_accepted s cells output (in_order_of t) (strict_read s t reads)
      ∙ rw (strict_same s t reads) (tidied_sheet_lem t cells output room ∙ tidied_written (printed_table t) (written cells t.inks) output (rw is at fits))
      ∙ (λ q. record { answer = accepted (length (sym is q)); cells = written cells t.inks; output = written output (sym is q) })

-- ---- every loose sheet

module _ (s : List ℕ) (t : LooseTable) (reads : read_loose s ≡ accepted t) where
  kept_loose : LooseRules t
  kept_loose = ((loose_sheets_lem s t).0 reads).kept

  -- the call writes the sheet of the table, ..
  pub tidies : (cells output : List ℕ) → LongTable (table_of_loose t) cells output
      → tidy_call s cells output
      ≡ record {
        answer = accepted (length (printed_table (table_of_loose t)));
        cells = written cells (table_of_loose t).inks;
        output = written output (printed_table (table_of_loose t));
      }
  tidies cells output long =
      tidy_accepted s cells output t reads
      ∙ tidied_sheet_lem (table_of_loose t) cells output long.cells_fit
      ∙ tidied_written (printed_table (table_of_loose t)) (written cells (table_of_loose t).inks) output long.output_fits

  -- .. which is an accepted table sheet
  pub tidied_accepted : (cells output : List ℕ) → LongTable (table_of_loose t) cells output
      → (tidied_text (tidy_call s cells output) ≡ accepted (printed_table (table_of_loose t)))
      × (read_table (printed_table (table_of_loose t)) ≡ accepted (table_of_loose t))
  unfolding sheet_in
  tidied_accepted cells output long = (
    ap tidied_text (tidies cells output long) ∙ ap accepted (written_front output (printed_table (table_of_loose t))),
    table_read_back (table_of_loose t) (loose_kept t kept_loose),
  )

  -- "a tidied sheet has, at each assignment, the ink of the row that named it": every assignment is named by a row, ..
  pub each_named : (ls : List ℕ) → Assignment t.header.levels t.header.inputs ls → (d : Row)
      → (k : ℕ) × (k < length t.rows) × (levels_at t.header.levels t.header.inputs (get_or t.rows k d).index ≡ ls)
  each_named ls given d =
      let m = t.header.levels in
      let n = t.header.inputs in
      let (k, h, e) = row_of t.rows (index_of m ls) (all_named t kept_loose (index_of m ls) (index_of_below m n ls given)) d in
      (k, h, ap (levels_at m n) e ∙ levels_index m n ls given)

  -- .. and for any row that names it, the table has that row's ink there
  pub ink_named_lem : (k : ℕ) (d : Row) → k < length t.rows → get_or (table_of_loose t).inks (get_or t.rows k d).index 0 ≡ (get_or t.rows k d).ink
  ink_named_lem k d h =
      ink_at_lem t kept_loose (get_or t.rows k d).index (index_named t.header.levels t.header.inputs t.rows kept_loose.each k d h)
      ∙ ink_of_row_lem t.rows kept_loose.once k d h

-- ---- two loose sheets

-- a list without its last element
but_last : {A : Type 0} (xs ys : List A) (v : A) → xs ++ (v ∷ []) ≡ ys ++ (v ∷ []) → xs ≡ ys
but_last xs ys v e =
    let counts : length xs ≡ length ys = omega (arith, ap length e, length-append xs (v ∷ []), length-append ys (v ∷ [])) in
    sym (take_at xs (v ∷ []) (length xs) refl) ∙ ap (take (length xs)) e ∙ take_at ys (v ∷ []) (length xs) (sym counts)

-- "the same first three lines, spaces aside": the fields of the three lines are the same, which holds exactly if the headers are
pub same_fields : (t u : LooseTable) → (take 3 (loose_fields t) ≡ take 3 (loose_fields u)) ↔ (t.header ≡ u.header)
unfolding loose_fields
same_fields t u = (
  λ e.
      let values : decimal t.header.levels ∷ decimal t.header.inputs ∷ [] ≡ decimal u.header.levels ∷ decimal u.header.inputs ∷ [] = cc in
      let levels : t.header.levels ≡ u.header.levels = decimal_injective t.header.levels u.header.levels (cc) in
      let inputs : t.header.inputs ≡ u.header.inputs = decimal_injective t.header.inputs u.header.inputs (cc) in
      let names : t.header.names ≡ u.header.names = but_last t.header.names u.header.names (text "ink") (cc) in
      (λ q. record { levels = levels q; inputs = inputs q; names = names q }),
  λ e. (λ q. take 3 (loose_fields (record { header = e q; rows = [] }))),
)

-- they "tidy to equal bytes exactly when they give every assignment the same ink"
module _ (s r : List ℕ) (t u : LooseTable) (reads : read_loose s ≡ accepted t) (reads' : read_loose r ≡ accepted u)
    (lines : take 3 (loose_fields t) ≡ take 3 (loose_fields u)) where
  -- every assignment has the same ink in both
  abbrev pub SameNamedInks : Type 0
  SameNamedInks = (p : ℕ) → p < t.header.levels ^ t.header.inputs → ink_named t.rows p ≡ ink_named u.rows p

  headers : t.header ≡ u.header
  headers = (same_fields t u).0 lines

  inks_same : table_of_loose t ≡ table_of_loose u → SameNamedInks
  inks_same e p h =
      sym (ink_at_lem t (kept_loose s t reads) p h)
      ∙ ap (λ (x : Table). get_or x.inks p 0) e
      ∙ ink_at_lem u (kept_loose r u reads') p (subst (λ (x : Header). p < x.levels ^ x.inputs) headers h)

  same_inks : SameNamedInks → table_of_loose t ≡ table_of_loose u
  unfolding table_of_loose
  same_inks each =
      let inks : map (ink_named t.rows) (range 0 (t.header.levels ^ t.header.inputs))
      ≡ map (ink_named u.rows) (range 0 (u.header.levels ^ u.header.inputs)) =
      map_range_same (ink_named t.rows) (ink_named u.rows) 0 (t.header.levels ^ t.header.inputs) (λ p _ h. each p (rw zero-add at h))
      ∙ ap (λ (x : Header). map (ink_named u.rows) (range 0 (x.levels ^ x.inputs))) headers in
      (λ q. record { header = headers q; inks = inks q })

  -- equal sheets have equal tables
  tables_same : printed_table (table_of_loose t) ≡ printed_table (table_of_loose u) → table_of_loose t ≡ table_of_loose u
  tables_same e =
      accepted_inj (table_of_loose t) (table_of_loose u)
      (sym (table_read_back (table_of_loose t) (loose_kept t (kept_loose s t reads)))
      ∙ ap read_table e
      ∙ table_read_back (table_of_loose u) (loose_kept u (kept_loose r u reads')))

  pub tidied_equal : (cells output cells' output' : List ℕ) → LongTable (table_of_loose t) cells output → LongTable (table_of_loose u) cells' output'
      → (tidied_text (tidy_call s cells output) ≡ tidied_text (tidy_call r cells' output')) ↔ SameNamedInks
  tidied_equal cells output cells' output' long long' =
      let first = (tidied_accepted s t reads cells output long).0 in
      let second = (tidied_accepted r u reads' cells' output' long').0 in (
        λ e. inks_same (tables_same (accepted_inj (printed_table (table_of_loose t)) (printed_table (table_of_loose u)) (sym first ∙ e ∙ second))),
        λ each. first ∙ ap (λ (x : Table). accepted (printed_table x)) (same_inks each) ∙ sym second,
      )
