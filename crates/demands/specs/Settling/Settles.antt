-- Demand 3, settling: "Every accepted net sheet settles to the settled net that document 01 fixes for its table, a net with its
-- own first three lines and its own table. For any two accepted net sheets with the same first three lines, whatever their wiring
-- and gate tables, the two settled sheets are equal in length and in every byte exactly when the two nets compute the same
-- table." (document 02, K12: "equal settling still means equal tables, unused inputs included")
-- Assumes nothing.
use Rattle.std.specs.Prelude.{◌≤◌, ◌^◌, ◌≡◌, ◌↔◌}
use Rattle.laws.specs.Prelude.{ℕ, ◌∙◌, sym, ap, List, dec_le, arith, length, take, answer_cases}
use Rattle.rules.specs.Calls.Answers.{Answer, accepted, refused, written}
use Rattle.rules.specs.Calls.Settling.{Made, settled_net, made_into, settle_call}
use Rattle.rules.specs.Groups.Marks.{marks_length, stored_marks}
use Rattle.rules.specs.Limits.{most_settled}
use Rattle.rules.specs.Sheets.Printed.{printed_net}
use Rattle.rules.specs.Sheets.Reading.{read_net, table_of_net}
use Rattle.rules.specs.Sheets.SheetRules.{NetRules}
use Rattle.rules.specs.Sheets.Sheets.{Net, Table}
use Rattle.laws.specs.Calls.Settling.{WholeTwo, marks_of_table, settle_accepted, into_marked, marked_tree, sheet_written, settle_refused, into_13}
use Rattle.laws.specs.Calls.Settling.{into_14, sheet_15}
use Rattle.demands.specs.Sheets.FirstLines.{three_lines, three_lines_lem, same_lines}
use Rattle.readback.specs.Sheets.ReadBack.{net_read_back, net_accepted}
use Rattle.readback.specs.Sheets.Length.{net_length}
use Rattle.laws.specs.Calls.Answers.{accepted_inj, written_front, not_refused}
use Rattle.trees.proofs.Trees.NetTables.{net_whole_two, settled_kept, settled_has_table}

-- "A call that writes a sheet answers its length, and the sheet is that many bytes from the front of the output."
unfoldable pub sheet_in : Answer ℕ → List ℕ → Answer (List ℕ)
sheet_in (accepted count) output = accepted (take count output)
sheet_in (refused number place) output = refused number place

-- the sheet that settling or making wrote
abbrev pub sheet_of : Made → Answer (List ℕ)
sheet_of made = sheet_in made.answer made.output

-- "Needed: m to the n bytes, .. and the settled sheet's length", for the marks "2 to the n, divided by 4" (document 02, K7): for any net that may be
-- made of a table, ..
pub record LongFor (net_for : Table → Net) (t : Table) (cells marks output : List ℕ) : Type 0 where
  pub cells_fit : t.header.levels ^ t.header.inputs ≤ length cells
  pub marks_fit : marks_length t.header.inputs ≤ length marks
  pub output_fits : length (printed_net (net_for t)) ≤ length output

-- .. and for the settled net
abbrev pub Long : Table → List ℕ → List ℕ → List ℕ → Type 0
Long t cells marks output = LongFor settled_net t cells marks output

-- a table whose whole group has mark 2, and long buffers: the sheet of the net made of it is written
pub net_written : (net_for : Table → Net) (t : Table) (cells marks output : List ℕ) → WholeTwo t → LongFor net_for t cells marks output
    → sheet_of (made_into net_for t cells marks output) ≡ accepted (printed_net (net_for t))
unfolding sheet_in
net_written net_for t cells marks output two long =
    ap sheet_of
    (into_marked t cells marks output _ long.cells_fit long.marks_fit
    ∙ marked_tree net_for t cells marks output two
    ∙ sheet_written (printed_net (net_for t)) (written cells t.inks) (written marks (stored_marks (marks_of_table t))) output long.output_fits)
    ∙ ap accepted (written_front output (printed_net (net_for t)))

-- ---- the demand

module _ (s : List ℕ) (net : Net) (reads : read_net s ≡ accepted net) where
  kept_net_lem : NetRules net
  kept_net_lem = (net_accepted s net reads).1

  -- an accepted net sheet settles to the sheet of the settled net of its table, ..
  pub settles : (cells marks output : List ℕ) → Long (table_of_net net) cells marks output
      → sheet_of (settle_call s cells marks output) ≡ accepted (printed_net (settled_net (table_of_net net)))
  settles cells marks output long =
      ap sheet_of (settle_accepted s cells marks output net reads) ∙ net_written settled_net (table_of_net net) cells marks output (net_whole_two net kept_net_lem) long

  -- .. which is accepted, ..
  pub settled_accepted : read_net (printed_net (settled_net (table_of_net net))) ≡ accepted (settled_net (table_of_net net))
  settled_accepted = net_read_back (settled_net (table_of_net net)) (settled_kept net kept_net_lem)

  -- .. and has its own table
  pub settled_own_table : table_of_net (settled_net (table_of_net net)) ≡ table_of_net net
  settled_own_table = settled_has_table net kept_net_lem

  -- .. and its own first three lines, ..
  pub settled_own_lines : three_lines (printed_net (settled_net (table_of_net net))) ≡ three_lines s
  unfolding settled_net table_of_net
  settled_own_lines =
      three_lines_lem (settled_net (table_of_net net)) (settled_kept net kept_net_lem)
      ∙ sym (ap three_lines (net_accepted s net reads).0 ∙ three_lines_lem net kept_net_lem)

  -- .. and is never over 512 bytes long
  pub settled_short : length (printed_net (settled_net (table_of_net net))) ≤ most_settled
  settled_short = net_length (settled_net (table_of_net net)) (settled_kept net kept_net_lem)

-- tables under one header are equal if their inks are
pub table_path : (t u : Table) → t.header ≡ u.header → t.inks ≡ u.inks → t ≡ u
table_path t u h e = λ i. record { header = h i; inks = e i }

-- Two accepted net sheets with the same first three lines settle to the same bytes exactly if they compute the same table.
module _ (s r : List ℕ) (net other : Net) (reads : read_net s ≡ accepted net) (reads_other : read_net r ≡ accepted other)
    (lines : three_lines s ≡ three_lines r) where
  pub settled_alike : (cells marks output cells' marks' output' : List ℕ) → Long (table_of_net net) cells marks output
      → Long (table_of_net other) cells' marks' output'
      → (sheet_of (settle_call s cells marks output) ≡ sheet_of (settle_call r cells' marks' output')) ↔ ((table_of_net net).inks ≡ (table_of_net other).inks)
  unfolding table_of_net
  settled_alike cells marks output cells' marks' output' long long' =
      let first = settles s net reads cells marks output long in
      let second = settles r other reads_other cells' marks' output' long' in (
        λ e. ap (λ (t : Table). t.inks)
            (sym (settled_own_table s net reads)
            ∙ ap table_of_net
            (accepted_inj (settled_net (table_of_net net)) (settled_net (table_of_net other))
            (sym (settled_accepted s net reads)
            ∙ ap read_net (accepted_inj (printed_net (settled_net (table_of_net net))) (printed_net (settled_net (table_of_net other))) (sym first ∙ e ∙ second))
            ∙ settled_accepted r other reads_other))
            ∙ settled_own_table r other reads_other),
        λ e. first ∙ ap (λ (t : Table). accepted (printed_net (settled_net t)))
            (table_path (table_of_net net) (table_of_net other) ((same_lines s r net other reads reads_other).0 lines) e) ∙ sym second,
      )

-- ---- whatever the buffers

-- if settling writes a sheet, the net sheet is accepted and the sheet is that of its settled net
pub settled_is : (s cells marks output sheet : List ℕ) → sheet_of (settle_call s cells marks output) ≡ accepted sheet
    → (net : Net) × (read_net s ≡ accepted net) × (sheet ≡ printed_net (settled_net (table_of_net net)))
unfolding sheet_in
settled_is s cells marks output sheet e = answer_cases (read_net s)
    (λ number place reads. absurd (not_given_lem number place (ap sheet_of (settle_refused s cells marks output number place reads))))
    (λ net reads. (net, reads, written_is net reads (dec_le _ _) (dec_le _ _) (dec_le _ _)))
  where
    not_given_lem : (number place : ℕ) → sheet_of (settle_call s cells marks output) ≡ refused number place → ⊥
    not_given_lem number place f = not_refused sheet number place (sym e ∙ f)

    written_is : (net : Net) → read_net s ≡ accepted net → Dec ((table_of_net net).header.levels ^ (table_of_net net).header.inputs ≤ length cells)
        → Dec (marks_length (table_of_net net).header.inputs ≤ length marks) → Dec (length (printed_net (settled_net (table_of_net net))) ≤ length output)
        → sheet ≡ printed_net (settled_net (table_of_net net))
    written_is net reads (no short) m o =
        absurd (not_given_lem 13 _ (ap sheet_of (settle_accepted s cells marks output net reads ∙ into_13 (table_of_net net) cells marks output _ (omega arith))))
    written_is net reads (yes c) (no short) o =
        absurd (not_given_lem 14 _ (ap sheet_of (settle_accepted s cells marks output net reads ∙ into_14 (table_of_net net) cells marks output _ c (omega arith))))
    written_is net reads (yes c) (yes m) (no short) =
        absurd (not_given_lem 15 _ (ap sheet_of
        (settle_accepted s cells marks output net reads
        ∙ into_marked (table_of_net net) cells marks output _ c m
        ∙ marked_tree settled_net (table_of_net net) cells marks output (net_whole_two net (net_accepted s net reads).1)
        ∙ sheet_15 (printed_net (settled_net (table_of_net net))) (written cells (table_of_net net).inks)
        (written marks (stored_marks (marks_of_table (table_of_net net)))) output (omega arith))))
    written_is net reads (yes c) (yes m) (yes o) =
        accepted_inj sheet (printed_net (settled_net (table_of_net net)))
        (sym e ∙ settles s net reads cells marks output (record { cells_fit = c; marks_fit = m; output_fits = o }))

-- the nets of two sheets, with the same header and the same table
pub record SameNets (s r : List ℕ) : Type 0 where
  pub net : Net
  pub other : Net
  pub reads : read_net s ≡ accepted net
  pub reads_other : read_net r ≡ accepted other
  pub header : net.header ≡ other.header
  pub table : table_of_net net ≡ table_of_net other

-- Two accepted settlings that wrote the same sheet, whatever the buffers, come from nets with the same header and the same table. ("equal settling
-- still means equal tables, unused inputs included", document 02, K12)
pub same_settled : (s r sheet : List ℕ) (cells marks output cells' marks' output' : List ℕ)
    → sheet_of (settle_call s cells marks output) ≡ accepted sheet → sheet_of (settle_call r cells' marks' output') ≡ accepted sheet → SameNets s r
unfolding table_of_net
same_settled s r sheet cells marks output cells' marks' output' e d =
    let (net, reads, is) = settled_is s cells marks output sheet e in
    let (other, reads_other, is_other) = settled_is r cells' marks' output' sheet d in
    let table : table_of_net net ≡ table_of_net other = sym (settled_own_table s net reads)
    ∙ ap table_of_net
    (accepted_inj (settled_net (table_of_net net)) (settled_net (table_of_net other))
    (sym (settled_accepted s net reads) ∙ ap read_net (sym is ∙ is_other) ∙ settled_accepted r other reads_other))
    ∙ settled_own_table r other reads_other in
    record { net = net; other = other; reads = reads; reads_other = reads_other; header = ap (λ (t : Table). t.header) table; table = table }
