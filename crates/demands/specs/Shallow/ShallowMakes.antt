-- Document 02, shallow making: "Every other tree computing that table has at least as many layers, and the answer carries the count." What shallow
-- making writes is an accepted net sheet with exactly the table and as many layers as it returns, and no net with that table has fewer.
-- Assumes nothing.
use Rattle.std.specs.Prelude.{◌<◌, ◌≤◌, ◌^◌, ◌≡◌}
use Rattle.laws.specs.Prelude.{ℕ, ◌∙◌, sym, ap, refl, List, dec_lt, ℕ_discrete, arith, length, take}
use Rattle.rules.specs.Calls.Answers.{accepted, refused, ink_in, onward, written}
use Rattle.rules.specs.Calls.OpenCells.{read_full}
use Rattle.rules.specs.Calls.Settling.{Made, made_into}
use Rattle.rules.specs.Calls.ShallowSettling.{Layered, LayeredMade, layered, with_layers, layered_into, shallow_net, net_layers, make_shallow_call}
use Rattle.rules.specs.Groups.Marks.{marks_length, stored_marks}
use Rattle.rules.specs.Limits.{most_settled}
use Rattle.rules.specs.Nets.Trees.{Tree, wiring_in, Computes}
use Rattle.rules.specs.Sheets.Printed.{printed_net}
use Rattle.rules.specs.Sheets.Reading.{read_net, table_of_net}
use Rattle.rules.specs.Sheets.SheetRules.{IsNet}
use Rattle.rules.specs.Sheets.Sheets.{Gate, Net, Table}
use Rattle.rules.specs.Nets.Layers.{layers}
use Rattle.laws.specs.Calls.Answers.{accepted_inj, not_refused, written_front}
use Rattle.laws.specs.Calls.Settling.{WholeTwo, marks_of_table, into_13, into_14, into_marked, marked_16, marked_tree, sheet_15, sheet_written}
use Rattle.laws.specs.Calls.ShallowSettling.{make_shallow_accepted}
use Rattle.readback.specs.Sheets.ReadBack.{net_accepted, net_read_back}
use Rattle.readback.specs.Sheets.Length.{net_length}
use Rattle.trees.specs.Shallow.Depths.{depth}
use Rattle.trees.proofs.Shallow.ShallowTables.{shallow_kept, shallow_has_table, shallow_least_gates, shallow_least_tree, shallow_least_net}
use Rattle.demands.specs.Settling.Settles.{LongFor, table_path}
use Rattle.demands.specs.Settling.Makes.{HasTree, two_tree}
use Rattle.demands.specs.Settling.TreeClause.{TreeFor, TreeAgrees, agrees_all}
use Rattle.demands.specs.Sheets.FullSheets.{FullTableRules, full_accepted, full_keeps}

-- ---- what is returned and written, whatever net is made of a table

-- the answer, and the front of the output
pub record ShallowWrote (net : Net) (made : LayeredMade) : Type 0 where
  pub answer : made.answer ≡ accepted (record { length = length (printed_net net); layers = net_layers net })
  pub sheet : take (length (printed_net net)) made.output ≡ printed_net net

module _ (net_for : Table → Net) (t : Table) (cells marks output : List ℕ) where
  -- if there is a tree and the buffers are long, the net's sheet is written, and its layers are returned
  layered_written : WholeTwo t → LongFor net_for t cells marks output → ShallowWrote (net_for t) (layered_into net_for t cells marks output)
  unfolding layered_into with_layers layered onward
  layered_written two long =
      rw (
        into_marked t cells marks output _ long.cells_fit long.marks_fit,
        marked_tree net_for t cells marks output two,
        sheet_written (printed_net (net_for t)) (written cells t.inks) (written marks (stored_marks (marks_of_table t))) output long.output_fits,
      )
      (record { answer = refl; sheet = written_front output (printed_net (net_for t)) })

  -- if the answer is accepted, there is a tree and the buffers are long
  accepted_long : (a : Layered) → (layered_into net_for t cells marks output).answer ≡ accepted a → WholeTwo t × LongFor net_for t cells marks output
  unfolding layered_into with_layers layered onward
  accepted_long a e =
      go (dec_lt (length cells) (t.header.levels ^ t.header.inputs)) (dec_lt (length marks) (marks_length t.header.inputs)) (ℕ_discrete _ 2)
      (dec_lt (length output) (length (printed_net (net_for t))))
    where
      not_so : (made : Made) (number place : ℕ) → made_into net_for t cells marks output ≡ made → made.answer ≡ refused number place → ⊥
      not_so made number place same d =
          not_refused a number place (sym e ∙ ap (layered (net_layers (net_for t))) (ap (λ (made : Made). made.answer) same ∙ d))

      go : Dec (length cells < t.header.levels ^ t.header.inputs) → Dec (length marks < marks_length t.header.inputs) → Dec (WholeTwo t)
          → Dec (length output < length (printed_net (net_for t))) → WholeTwo t × LongFor net_for t cells marks output
      go (yes short) _ _ _ = absurd (not_so _ 13 _ (into_13 t cells marks output _ short) refl)
      go (no room) (yes short) _ _ = absurd (not_so _ 14 _ (into_14 t cells marks output _ (omega arith) short) refl)
      go (no room) (no marks_room) (no none) _ =
          absurd (not_so _ 16 _ (into_marked t cells marks output _ (omega arith) (omega arith) ∙ marked_16 net_for t cells marks output none) refl)
      go (no room) (no marks_room) (yes two) (yes short) =
          absurd (not_so _ 15 _
          (into_marked t cells marks output _ (omega arith) (omega arith) ∙ marked_tree net_for t cells marks output two
          ∙ sheet_15 (printed_net (net_for t)) (written cells t.inks) (written marks (stored_marks (marks_of_table t))) output short) refl)
      go (no room) (no marks_room) (yes two) (no output_room) =
          (two, record { cells_fit = omega arith; marks_fit = omega arith; output_fits = omega arith })

-- ---- the shallow net

-- what is written is the shallow net's sheet, which is accepted as that net, with exactly the table and as many layers as are returned
pub record ShallowOf (t : Table) (made : LayeredMade) : Type 0 where
  pub wrote : ShallowWrote (shallow_net t) made
  pub reads : read_net (printed_net (shallow_net t)) ≡ accepted (shallow_net t)
  pub table : table_of_net (shallow_net t) ≡ t

module _ (t : Table) (kept : FullTableRules t) (cells marks output : List ℕ) where
  pub shallow_into : WholeTwo t → LongFor shallow_net t cells marks output → ShallowOf t (layered_into shallow_net t cells marks output)
  shallow_into two long = record {
    wrote = layered_written shallow_net t cells marks output two long;
    reads = net_read_back (shallow_net t) (shallow_kept t (full_keeps t kept) kept.below two);
    table = shallow_has_table t (full_keeps t kept) kept.below two;
  }

  -- whatever the buffers, for an accepted answer
  pub shallow_accepted : (a : Layered) → (layered_into shallow_net t cells marks output).answer ≡ accepted a
      → WholeTwo t × ShallowOf t (layered_into shallow_net t cells marks output)
  shallow_accepted a e =
      let (two, long) = accepted_long shallow_net t cells marks output a e in
      (two, shallow_into two long)

-- the layers returned are the shallow net's
pub answered_layers : (t : Table) (made : LayeredMade) → ShallowOf t made → (a : Layered) → made.answer ≡ accepted a → a.layers ≡ net_layers (shallow_net t)
answered_layers t made of a e = sym (ap (λ (a : Layered). a.layers) (accepted_inj _ a (sym of.wrote.answer ∙ e)))

-- ---- making

module _ (s : List ℕ) (t : Table) (reads : read_full s ≡ accepted t) where
  kept : FullTableRules t
  kept = (full_accepted s t reads).1

  -- shallow making of a table with a tree, ..
  pub makes_shallow : (cells marks output : List ℕ) → HasTree t → LongFor shallow_net t cells marks output → ShallowOf t (make_shallow_call s cells marks output)
  makes_shallow cells marks output tree long =
      rw (make_shallow_accepted s cells marks output t reads) (shallow_into t kept cells marks output ((two_tree t kept).0 tree) long)

  -- .. never over 512 bytes, ..
  pub shallow_made_short : HasTree t → length (printed_net (shallow_net t)) ≤ most_settled
  shallow_made_short tree = net_length (shallow_net t) (shallow_kept t (full_keeps t kept) kept.below ((two_tree t kept).0 tree))

  -- .. and, whatever the buffers, whenever it is accepted
  module _ (cells marks output : List ℕ) (a : Layered) (answers : (make_shallow_call s cells marks output).answer ≡ accepted a) where
    done : WholeTwo t × ShallowOf t (make_shallow_call s cells marks output)
    done =
        let same = make_shallow_accepted s cells marks output t reads in
        let (two, of) = shallow_accepted t kept cells marks output a (sym (ap (λ (made : LayeredMade). made.answer) same) ∙ answers) in
        (two, rw same of)

    pub made_shallow : HasTree t × ShallowOf t (make_shallow_call s cells marks output)
    made_shallow = ((two_tree t kept).1 done.0, done.1)

    count : a.layers ≡ net_layers (shallow_net t)
    count = answered_layers t (make_shallow_call s cells marks output) done.1 a answers

    -- "Every other tree computing that table has at least as many layers": every accepted net sheet, whatever its wiring and gate tables, ..
    pub made_shallowest : (r : List ℕ) (net : Net) → read_net r ≡ accepted net → net.header ≡ t.header → (table_of_net net).inks ≡ t.inks
        → a.layers ≤ net_layers net
    unfolding table_of_net
    made_shallowest r net reads_net header inks =
        rw (count, ← (table_path (table_of_net net) t header inks)) (shallow_least_net net (net_accepted r net reads_net).1)

    -- .. every gate list, ..
    pub made_shallowest_gates : (gates : List Gate) → IsNet t.header.levels t.header.inputs gates
        → Computes t.header.levels t.header.inputs gates (ink_in t.inks) → a.layers ≤ layers t.header.inputs gates
    made_shallowest_gates gates net has = rw count (shallow_least_gates t (full_keeps t kept) kept.below done.0 gates net has)

    -- .. and every one of Section I's trees
    pub made_shallowest_trees : (tree : Tree) → TreeFor t tree → TreeAgrees tree t → a.layers ≤ depth (wiring_in tree)
    made_shallowest_trees tree is agrees =
        rw count (shallow_least_tree t (full_keeps t kept) kept.below done.0 tree is ((agrees_all t kept.header tree is).1 agrees))
