-- Document 02: what shallow settling writes is an accepted net sheet with its net's own first three lines, its own table and as
-- many layers as it returns, and no net with that table has fewer. It depends only on the table and the first three lines; shallow making
-- writes the same.
-- Assumes nothing.
use Rattle.std.specs.Prelude.{◌≤◌, ◌≡◌, ◌↔◌}
use Rattle.laws.specs.Prelude.{ℕ, ◌∙◌, sym, ap, List, length}
use Rattle.rules.specs.Calls.Answers.{Answer, accepted, ink_in}
use Rattle.rules.specs.Calls.OpenCells.{read_full}
use Rattle.rules.specs.Calls.ShallowSettling.{Layered, LayeredMade, shallow_net, net_layers, settle_shallow_call, make_shallow_call}
use Rattle.rules.specs.Limits.{most_settled}
use Rattle.rules.specs.Nets.Trees.{Tree, wiring_in, Computes}
use Rattle.rules.specs.Sheets.Printed.{printed_net}
use Rattle.rules.specs.Sheets.Reading.{read_net, table_of_net}
use Rattle.rules.specs.Sheets.SheetRules.{IsNet, NetRules}
use Rattle.rules.specs.Sheets.Sheets.{Gate, Net, Table}
use Rattle.rules.specs.Nets.Layers.{layers}
use Rattle.laws.specs.Calls.Answers.{accepted_inj}
use Rattle.laws.specs.Calls.ShallowSettling.{settle_shallow_accepted, make_shallow_accepted}
use Rattle.readback.specs.Sheets.ReadBack.{net_accepted, net_read_back}
use Rattle.readback.specs.Sheets.Length.{net_length}
use Rattle.trees.specs.Shallow.Depths.{depth}
use Rattle.trees.specs.Trees.NetTables.{kept_table, net_full}
use Rattle.trees.proofs.Trees.NetTables.{net_whole_two}
use Rattle.trees.proofs.Shallow.ShallowTables.{shallow_kept, shallow_has_table, shallow_least_gates, shallow_least_tree, shallow_least_net}
use Rattle.demands.specs.Sheets.FirstLines.{three_lines, three_lines_lem, same_lines}
use Rattle.demands.specs.Settling.Settles.{sheet_of, LongFor, net_written, table_path}
use Rattle.demands.specs.Sheets.FullSheets.{full_accepted, net_kept}
use Rattle.demands.specs.Settling.Makes.{two_tree, sheet_tree}
use Rattle.demands.specs.Settling.TreeClause.{TreeFor, TreeAgrees, agrees_all}
use Rattle.laws.specs.Calls.ShallowSettling.{plain_made, plain_into}
use Rattle.demands.specs.Shallow.ShallowMakes.{ShallowOf, shallow_into, shallow_accepted, answered_layers}

-- the sheet that shallow settling or making wrote: as many bytes from the front of the output as it returns
abbrev pub shallow_sheet_of : LayeredMade → Answer (List ℕ)
shallow_sheet_of made = sheet_of (plain_made made)

-- ---- settling

module _ (s : List ℕ) (net : Net) (reads : read_net s ≡ accepted net) where
  kept_net_lem : NetRules net
  kept_net_lem = (net_accepted s net reads).1

  -- an accepted net sheet with long buffers, ..
  pub settles_shallow : (cells marks output : List ℕ) → LongFor shallow_net (table_of_net net) cells marks output
      → ShallowOf (table_of_net net) (settle_shallow_call s cells marks output)
  settles_shallow cells marks output long =
      rw (settle_shallow_accepted s cells marks output net reads)
      (shallow_into (table_of_net net) (net_kept net kept_net_lem) cells marks output (net_whole_two net kept_net_lem) long)

  -- .. with its own first three lines, ..
  pub shallow_own_lines : three_lines (printed_net (shallow_net (table_of_net net))) ≡ three_lines s
  unfolding shallow_net table_of_net
  shallow_own_lines =
      three_lines_lem (shallow_net (table_of_net net)) (shallow_kept (table_of_net net) (kept_table net kept_net_lem) (net_full net kept_net_lem) (net_whole_two net kept_net_lem))
      ∙ sym (ap three_lines (net_accepted s net reads).0 ∙ three_lines_lem net kept_net_lem)

  -- .. never over 512 bytes, ..
  pub shallow_short : length (printed_net (shallow_net (table_of_net net))) ≤ most_settled
  shallow_short = net_length (shallow_net (table_of_net net))
      (shallow_kept (table_of_net net) (kept_table net kept_net_lem) (net_full net kept_net_lem) (net_whole_two net kept_net_lem))

  -- .. and, whatever the buffers, whenever it is accepted
  module _ (cells marks output : List ℕ) (a : Layered) (answers : (settle_shallow_call s cells marks output).answer ≡ accepted a) where
    pub settled_shallow : ShallowOf (table_of_net net) (settle_shallow_call s cells marks output)
    settled_shallow =
        let same = settle_shallow_accepted s cells marks output net reads in
        rw same (shallow_accepted (table_of_net net) (net_kept net kept_net_lem) cells marks output a
        (sym (ap (λ (made : LayeredMade). made.answer) same) ∙ answers)).1

    count : a.layers ≡ net_layers (shallow_net (table_of_net net))
    count = answered_layers (table_of_net net) (settle_shallow_call s cells marks output) settled_shallow a answers

    -- "Every other tree computing that table has at least as many layers": every accepted net sheet with the same header and table, ..
    pub settled_shallowest : (r : List ℕ) (other : Net) → read_net r ≡ accepted other → other.header ≡ net.header
        → (table_of_net other).inks ≡ (table_of_net net).inks
        → a.layers ≤ net_layers other
    unfolding table_of_net
    settled_shallowest r other reads_other header inks =
        rw (count, ← (table_path (table_of_net other) (table_of_net net) header inks)) (shallow_least_net other (net_accepted r other reads_other).1)

    -- .. every gate list, ..
    pub settled_shallowest_gates : (gates : List Gate) → IsNet net.header.levels net.header.inputs gates
        → Computes net.header.levels net.header.inputs gates (ink_in (table_of_net net).inks) → a.layers ≤ layers net.header.inputs gates
    unfolding table_of_net
    settled_shallowest_gates gates is has =
        rw count (shallow_least_gates (table_of_net net) (kept_table net kept_net_lem) (net_full net kept_net_lem) (net_whole_two net kept_net_lem) gates is has)

    -- .. and every one of Section I's trees
    pub settled_shallowest_trees : (tree : Tree) → TreeFor (table_of_net net) tree → TreeAgrees tree (table_of_net net) → a.layers ≤ depth (wiring_in tree)
    unfolding table_of_net
    settled_shallowest_trees tree is agrees =
        rw count
        (shallow_least_tree (table_of_net net) (kept_table net kept_net_lem) (net_full net kept_net_lem) (net_whole_two net kept_net_lem) tree is
        ((agrees_all (table_of_net net) kept_net_lem.header tree is).1 agrees))

  -- the sheet, as one answer
  pub settles_shallow_sheet : (cells marks output : List ℕ) → LongFor shallow_net (table_of_net net) cells marks output
      → shallow_sheet_of (settle_shallow_call s cells marks output) ≡ accepted (printed_net (shallow_net (table_of_net net)))
  settles_shallow_sheet cells marks output long =
      ap shallow_sheet_of (settle_shallow_accepted s cells marks output net reads)
      ∙ ap sheet_of (plain_into shallow_net (table_of_net net) cells marks output)
      ∙ net_written shallow_net (table_of_net net) cells marks output (net_whole_two net kept_net_lem) long

-- ---- two sheets

-- nets with equal shallow sheets have equal tables
says_table : (net : Net) → NetRules net → (other : Net) → NetRules other
    → printed_net (shallow_net (table_of_net net)) ≡ printed_net (shallow_net (table_of_net other)) → table_of_net net ≡ table_of_net other
says_table net kept other kept' e =
    sym (shallow_has_table (table_of_net net) (kept_table net kept) (net_full net kept) (net_whole_two net kept))
    ∙ ap table_of_net
    (accepted_inj (shallow_net (table_of_net net)) (shallow_net (table_of_net other))
    (sym (net_read_back (shallow_net (table_of_net net)) (shallow_kept (table_of_net net) (kept_table net kept) (net_full net kept) (net_whole_two net kept)))
    ∙ ap read_net e
    ∙ net_read_back (shallow_net (table_of_net other))
    (shallow_kept (table_of_net other) (kept_table other kept') (net_full other kept') (net_whole_two other kept'))))
    ∙ shallow_has_table (table_of_net other) (kept_table other kept') (net_full other kept') (net_whole_two other kept')

-- Two accepted net sheets have the same shallow sheet exactly if their first three lines and their tables are the same.
pub shallow_alike : (s r : List ℕ) (net other : Net) → read_net s ≡ accepted net → read_net r ≡ accepted other
    → (cells marks output cells' marks' output' : List ℕ) → LongFor shallow_net (table_of_net net) cells marks output
    → LongFor shallow_net (table_of_net other) cells' marks' output'
    → (shallow_sheet_of (settle_shallow_call s cells marks output) ≡ shallow_sheet_of (settle_shallow_call r cells' marks' output'))
    ↔ ((three_lines s ≡ three_lines r) × ((table_of_net net).inks ≡ (table_of_net other).inks))
unfolding table_of_net
shallow_alike s r net other reads reads_other cells marks output cells' marks' output' long long' =
    let first = settles_shallow_sheet s net reads cells marks output long in
    let second = settles_shallow_sheet r other reads_other cells' marks' output' long' in
    let lines = same_lines s r net other reads reads_other in (
      λ e.
          let same : table_of_net net ≡ table_of_net other =
          says_table net (net_accepted s net reads).1 other (net_accepted r other reads_other).1
          (accepted_inj (printed_net (shallow_net (table_of_net net))) (printed_net (shallow_net (table_of_net other))) (sym first ∙ e ∙ second)) in
          (lines.1 (ap (λ (t : Table). t.header) same), ap (λ (t : Table). t.inks) same),
      λ (same_three, inks).
          first
          ∙ ap (λ (t : Table). accepted (printed_net (shallow_net t))) (table_path (table_of_net net) (table_of_net other) (lines.0 same_three) inks)
          ∙ sym second,
    )

-- Shallow making writes the same sheet that shallow settling writes from every accepted net sheet with that table and header.
pub make_as_settle_shallow : (s : List ℕ) (t : Table) → read_full s ≡ accepted t
    → (r : List ℕ) (net : Net) → read_net r ≡ accepted net → net.header ≡ t.header → (table_of_net net).inks ≡ t.inks
    → (cells marks output cells' marks' output' : List ℕ) → LongFor shallow_net t cells marks output → LongFor shallow_net (table_of_net net) cells' marks' output'
    → shallow_sheet_of (make_shallow_call s cells marks output) ≡ shallow_sheet_of (settle_shallow_call r cells' marks' output')
unfolding table_of_net
make_as_settle_shallow s t reads r net reads_net header inks cells marks output cells' marks' output' long long' =
    let same : table_of_net net ≡ t = table_path (table_of_net net) t header inks in
    let two = (two_tree t (full_accepted s t reads).1).0 (sheet_tree t (r, net, reads_net, same)) in
    ap shallow_sheet_of (make_shallow_accepted s cells marks output t reads)
    ∙ ap sheet_of (plain_into shallow_net t cells marks output)
    ∙ net_written shallow_net t cells marks output two long
    ∙ ap (λ (u : Table). accepted (printed_net (shallow_net u))) (sym same)
    ∙ sym (settles_shallow_sheet r net reads_net cells' marks' output' long')
