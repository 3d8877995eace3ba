-- Document 02, K3, the sheets of a family: "Every wiring that computes the table turns up under just one number", where "a family numbers the wirings
-- on just these" leaves (K12). What the call for a number below the count writes is an accepted net sheet with exactly the table, on just its leaves.
-- The sheets of two numbers have different wirings. Every net on the leaves that has the table is one wiring with what the call for exactly one
-- number writes, and no other net is.
-- Assumes nothing.
use Rattle.std.specs.Prelude.{◌<◌, ◌≤◌, ◌≡◌}
use Rattle.laws.specs.Prelude.{ℕ, ◌∙◌, sym, ap, subst, subst₂, List, ltb, length}
use Rattle.rules.specs.Calls.Answers.{accepted, ink_in, written}
use Rattle.rules.specs.Calls.FamilyCalls.{count_of_table, family_net, family_tree_call}
use Rattle.rules.specs.Calls.OpenCells.{read_full}
use Rattle.rules.specs.Calls.Settling.{written_sheet}
use Rattle.rules.specs.Groups.Marks.{stored_marks}
use Rattle.rules.specs.Limits.{most_settled}
use Rattle.rules.specs.Nets.Family.{SameWiring}
use Rattle.rules.specs.Nets.Trees.{Computes, UsesJust}
use Rattle.rules.specs.Sheets.Printed.{first_lines, printed_net}
use Rattle.rules.specs.Sheets.Reading.{read_net, table_of_net}
use Rattle.rules.specs.Sheets.SheetRules.{IsNet}
use Rattle.rules.specs.Sheets.Sheets.{Gate, Net, Table}
use Rattle.laws.specs.Calls.Answers.{accepted_inj, not_refused, written_front}
use Rattle.laws.specs.Calls.Settling.{marks_of_table, sheet_written}
use Rattle.laws.specs.Lists.Tests.{by_test}
use Rattle.laws.specs.Calls.FamilyCalls.{count_tree}
use Rattle.readback.specs.Sheets.ReadBack.{net_accepted, net_read_back}
use Rattle.readback.specs.Sheets.Length.{net_length}
use Rattle.trees.specs.Trees.Uniqueness.{table_at}
use Rattle.demands.specs.Sheets.FirstLines.{three_lines, three_lines_lem}
use Rattle.demands.specs.Settling.Settles.{sheet_in, sheet_of, Long}
use Rattle.demands.specs.Settling.Makes.{leaves_of_table}
use Rattle.demands.specs.Families.FamilyOutcomes.{on_with, refuses_all, no_number, has_tree, judge_number}
use Rattle.demands.specs.Families.FamilyTables.{family_kept, family_has_table, family_on_leaves, numbers_long, family_as_long, numbers_apart}
use Rattle.demands.specs.Families.FamilyTables.{number_of, numbers_on_leaves}
use Rattle.demands.specs.Sheets.FullSheets.{FullTableRules, full_accepted}

-- the written sheet is the intended one
front_written : (sheet cells marks output found : List ℕ) → sheet_of (written_sheet sheet cells marks output) ≡ accepted found → sheet ≡ found
unfolding sheet_in written_sheet
front_written sheet cells marks output found =
    by_test (λ made. sheet_of made ≡ accepted found → sheet ≡ found) (ltb (length output) (length sheet)) _ _ (λ e. absurd (not_refused found 15 _ (sym e)))
    (λ e. sym (written_front output sheet) ∙ accepted_inj _ found e)

-- the sheet's net is one wiring with the gates, up to "which side is left, .. gate numbers or .. gate tables"
pub record OneWiring (n : ℕ) (gates : List Gate) (sheet : List ℕ) : Type 0 where
  pub net : Net
  pub reads : read_net sheet ≡ accepted net
  pub same : SameWiring n gates net.gates

module _ (s : List ℕ) (t : Table) (reads : read_full s ≡ accepted t) where
  kept : FullTableRules t
  kept = (full_accepted s t reads).1

  -- ---- the sheet of a number

  -- "writes the tree of that number, from 0": for each number below the count, in buffers that are long enough for making, ..
  pub writes_tree : (r : ℕ) → r < count_of_table t → (cells marks output : List ℕ) → Long t cells marks output
      → sheet_of (family_tree_call s r cells marks output) ≡ accepted (printed_net (family_net r t))
  unfolding sheet_in
  writes_tree r h cells marks output long =
      ap sheet_of
      ((on_with s cells marks t reads long.cells_fit long.marks_fit).numbers r output
      ∙ count_tree r t cells marks output h
      ∙ sheet_written (printed_net (family_net r t)) (written cells t.inks) (written marks (stored_marks (marks_of_table t))) output
      (rw (family_as_long t kept r h) long.output_fits))
      ∙ ap accepted (written_front output (printed_net (family_net r t)))

  -- .. a sheet that is accepted, ..
  pub tree_accepted : (r : ℕ) → r < count_of_table t → read_net (printed_net (family_net r t)) ≡ accepted (family_net r t)
  tree_accepted r h = net_read_back (family_net r t) (family_kept t kept r h)

  -- .. with exactly the table, ..
  pub tree_has_table : (r : ℕ) → r < count_of_table t → table_of_net (family_net r t) ≡ t
  tree_has_table r h = family_has_table t kept r h

  -- .. on just its leaves, ..
  pub tree_on_leaves : (r : ℕ) → r < count_of_table t → UsesJust t.header.inputs (family_net r t).gates (leaves_of_table t)
  tree_on_leaves r h = family_on_leaves t kept r h

  -- .. the first three lines of the table's header, and never over 512 bytes
  pub tree_lines : (r : ℕ) → r < count_of_table t → three_lines (printed_net (family_net r t)) ≡ first_lines t.header t.header.names
  unfolding family_net
  tree_lines r h = three_lines_lem (family_net r t) (family_kept t kept r h)

  pub tree_short : (r : ℕ) → r < count_of_table t → length (printed_net (family_net r t)) ≤ most_settled
  tree_short r h = net_length (family_net r t) (family_kept t kept r h)

  -- whatever the buffers, a written sheet is that one
  pub tree_written : (r : ℕ) (cells marks output sheet : List ℕ) → sheet_of (family_tree_call s r cells marks output) ≡ accepted sheet
      → (r < count_of_table t) × (printed_net (family_net r t) ≡ sheet)
  unfolding sheet_in
  tree_written r cells marks output sheet e = elim (judge_number s r cells marks output) [
    | refuses_all number place is ↦ absurd (not_refused sheet number place (sym e ∙ ap sheet_of (is.numbers r output)))
    | no_number u is large d ↦ absurd (not_refused sheet 17 r (sym e ∙ ap sheet_of d))
    | has_tree u is small d ↦
        subst (λ (t : Table). (r < count_of_table t) × (printed_net (family_net r t) ≡ sheet)) (accepted_inj u t (sym is.reads ∙ reads))
        (small, front_written (printed_net (family_net r u)) _ _ output sheet (sym (ap sheet_of d) ∙ e))
  ]

  -- and so it is accepted, as a net with exactly the table
  pub tree_sheet : (r : ℕ) (cells marks output sheet : List ℕ) → sheet_of (family_tree_call s r cells marks output) ≡ accepted sheet
      → (read_net sheet ≡ accepted (family_net r t)) × (table_of_net (family_net r t) ≡ t)
  tree_sheet r cells marks output sheet e =
      let (below, same) = tree_written r cells marks output sheet e in
      (ap read_net (sym same) ∙ tree_accepted r below, tree_has_table r below)

  -- all sheets of a family have the same length
  pub equally_long_sheets : (a b : ℕ) (cells marks output cells' marks' output' sheet sheet' : List ℕ)
      → sheet_of (family_tree_call s a cells marks output) ≡ accepted sheet → sheet_of (family_tree_call s b cells' marks' output') ≡ accepted sheet'
      → length sheet ≡ length sheet'
  equally_long_sheets a b cells marks output cells' marks' output' sheet sheet' e d =
      let (below, same) = tree_written a cells marks output sheet e in
      let (below', same') = tree_written b cells' marks' output' sheet' d in
      ap length (sym same) ∙ numbers_long t kept a b below below' ∙ ap length same'

  -- ---- one number for each wiring

  -- a written sheet is one wiring with its number's net
  pub one_wiring : (r : ℕ) (cells marks output sheet : List ℕ) → sheet_of (family_tree_call s r cells marks output) ≡ accepted sheet
      → (gates : List Gate) → OneWiring t.header.inputs gates sheet → SameWiring t.header.inputs gates (family_net r t).gates
  one_wiring r cells marks output sheet e gates is =
      subst (λ (net : Net). SameWiring t.header.inputs gates net.gates)
      (accepted_inj is.net (family_net r t) (sym is.reads ∙ (tree_sheet r cells marks output sheet e).0)) is.same

  -- The sheets of two numbers have different wirings.
  pub two_wirings : (a b : ℕ) (cells marks output cells' marks' output' sheet sheet' : List ℕ)
      → sheet_of (family_tree_call s a cells marks output) ≡ accepted sheet → sheet_of (family_tree_call s b cells' marks' output') ≡ accepted sheet'
      → (net other : Net) → read_net sheet ≡ accepted net → read_net sheet' ≡ accepted other
      → SameWiring t.header.inputs net.gates other.gates → a ≡ b
  two_wirings a b cells marks output cells' marks' output' sheet sheet' e d net other reads_net reads_other same =
      let is_a_lem = accepted_inj net (family_net a t) (sym reads_net ∙ (tree_sheet a cells marks output sheet e).0) in
      let is_b = accepted_inj other (family_net b t) (sym reads_other ∙ (tree_sheet b cells' marks' output' sheet' d).0) in
      numbers_apart t kept a b (tree_written a cells marks output sheet e).0 (tree_written b cells' marks' output' sheet' d).0
      (subst₂ (λ (x y : Net). SameWiring t.header.inputs x.gates y.gates) is_a_lem is_b same)

  -- What it means to turn up "under just one number": the call for that number, in all buffers that are long enough for making, writes a sheet that
  -- shows it; and whatever the buffers, no call for another number does.
  pub record UnderOneNumber (Shows : List ℕ → Type 0) : Type 0 where
    pub number : ℕ
    pub below : number < count_of_table t
    pub turns_up : (cells marks output : List ℕ) → Long t cells marks output
        → (sheet : List ℕ) × (sheet_of (family_tree_call s number cells marks output) ≡ accepted sheet) × Shows sheet
    pub only : (r : ℕ) (cells marks output sheet : List ℕ) → sheet_of (family_tree_call s r cells marks output) ≡ accepted sheet → Shows sheet → r ≡ number

  -- "Every wiring that computes the table turns up under just one number": every gate list on just the leaves, ..
  pub every_gates : (gates : List Gate) → IsNet t.header.levels t.header.inputs gates → UsesJust t.header.inputs gates (leaves_of_table t)
      → Computes t.header.levels t.header.inputs gates (ink_in t.inks) → UnderOneNumber (OneWiring t.header.inputs gates)
  every_gates gates net uses has =
      let is = number_of t kept gates net uses has in
      record {
        number = is.number;
        below = is.below;
        turns_up = λ cells marks output long. (
          printed_net (family_net is.number t),
          writes_tree is.number is.below cells marks output long,
          record { net = family_net is.number t; reads = tree_accepted is.number is.below; same = is.same },
        );
        only = λ r cells marks output sheet e one.
            is.only r (tree_written r cells marks output sheet e).0 (one_wiring r cells marks output sheet e gates one);
      }

  -- .. and every accepted net sheet with the table's levels and inputs that has the table and uses just the leaves, whatever its names, sides, gate
  -- numbers and gate tables
  pub every_sheet : (q : List ℕ) (net : Net) → read_net q ≡ accepted net → net.header.levels ≡ t.header.levels → net.header.inputs ≡ t.header.inputs
      → UsesJust t.header.inputs net.gates (leaves_of_table t) → (table_of_net net).inks ≡ t.inks
      → UnderOneNumber (OneWiring t.header.inputs net.gates)
  unfolding table_of_net
  every_sheet q net reads_net levels inputs uses inks =
      every_gates net.gates
      (subst₂ (λ (m n : ℕ). IsNet m n net.gates) levels inputs (net_accepted q net reads_net).1.gates) uses
      (subst₂ (λ (m n : ℕ). Computes m n net.gates (ink_in t.inks)) levels inputs
      (subst (λ (xs : List ℕ). Computes net.header.levels net.header.inputs net.gates (ink_in xs)) inks
      (λ p h. sym (table_at net.header.levels net.header.inputs net.gates p h))))

  -- "just these": a net that is one wiring with what a call writes, whatever the buffers, uses just the leaves
  pub just_leaves : (r : ℕ) (cells marks output sheet : List ℕ) → sheet_of (family_tree_call s r cells marks output) ≡ accepted sheet
      → (gates : List Gate) → IsNet t.header.levels t.header.inputs gates → OneWiring t.header.inputs gates sheet
      → UsesJust t.header.inputs gates (leaves_of_table t)
  just_leaves r cells marks output sheet e gates net one =
      numbers_on_leaves t kept gates net r (tree_written r cells marks output sheet e).0 (one_wiring r cells marks output sheet e gates one)
