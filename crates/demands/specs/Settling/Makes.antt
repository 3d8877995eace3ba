-- Demand 3, making: "For every accepted table sheet, making refuses the table as having no tree exactly when no fanout-free tree of
-- two-input gates .. computes it, whatever the tree's wiring and gate tables", and whatever its leaves: "inputs may stay unused" (document 02, K12).
-- `LeafTrees` says which leaves are possible. "Otherwise making writes the very sheet that settling writes from every accepted net sheet with that
-- table, the same levels and the same input names in the same order." "Demand 3 now speaks of full tables" (document 02, K13).
-- Assumes nothing.
use Rattle.std.specs.Prelude.{◌≤◌, ◌^◌, ◌≡◌, ◌↔◌, ◌∷◌}
use Rattle.laws.specs.Prelude.{ℕ, ◌∙◌, sym, ap, refl, subst, subst⁻¹, List, [], ℕ_discrete, ltb, length, by_cases}
use Rattle.rules.specs.Calls.Answers.{accepted, refused, ink_in, written}
use Rattle.rules.specs.Calls.OpenCells.{read_full}
use Rattle.rules.specs.Calls.Settling.{Made, settled_net, written_sheet, room_for, in_room, made_into, settle_call, make_call}
use Rattle.rules.specs.Groups.Marks.{marks_length, stored_marks, no_tree_place}
use Rattle.rules.specs.Limits.{most_settled}
use Rattle.rules.specs.Lists.{any}
use Rattle.rules.specs.Nets.Leaves.{leaves_of}
use Rattle.rules.specs.Nets.Trees.{Computes, TreeExists}
use Rattle.rules.specs.Sheets.Printed.{printed_net}
use Rattle.rules.specs.Sheets.Reading.{read_net, table_of_net}
use Rattle.rules.specs.Sheets.SheetRules.{IsNet, NetRules}
use Rattle.rules.specs.Sheets.Sheets.{Gate, Net, Table}
use Rattle.laws.specs.Calls.Settling.{WholeTwo, marks_of_table, make_accepted, into_marked, marked_16, marked_tree}
use Rattle.trees.proofs.Trees.Existence.{tree_exists, settled_net_lem}
use Rattle.trees.specs.Trees.Uniqueness.{table_is, table_at}
use Rattle.readback.specs.Sheets.Length.{net_length}
use Rattle.readback.specs.Sheets.ReadBack.{net_read_back, net_accepted}
use Rattle.demands.specs.Settling.Settles.{sheet_in, sheet_of, Long, net_written, settles, table_path}
use Rattle.laws.specs.Calls.Answers.{accepted_inj, not_refused, written_front}
use Rattle.demands.specs.Numbers.Numbers.{by_answer, not_given_lem}
use Rattle.laws.specs.Lists.Tests.{by_test}
use Rattle.demands.specs.Numbers.SettlingNumbers.{sheet_numbers}
use Rattle.demands.specs.Sheets.FullSheets.{FullTableRules, full_facts, full_accepted}

-- a table's levels, inputs and inks, by one letter each
pub record TableLetters : Type 0 where
  pub m : ℕ
  pub n : ℕ
  pub f : ℕ → ℕ

abbrev pub table_letters : Table → TableLetters
table_letters t = record { m = t.header.levels; n = t.header.inputs; f = ink_in t.inks }

-- "just the inputs that matter .. if fewer than two do, the first-listed others make up two" (document 02, K12): a table's leaves, as a group
abbrev pub leaves_of_table : Table → ℕ
leaves_of_table t = leaves_of t.header.levels t.header.inputs (ink_in t.inks)

-- some gate list, whatever its leaves, its wiring and its digits, is a net of the table's levels and inputs and computes its inks
abbrev pub HasTree : Table → Type 0
HasTree t = TreeExists t.header.levels t.header.inputs (ink_in t.inks)

-- some accepted net sheet of the table's levels and names has its inks
abbrev pub HasSheet : Table → Type 0
HasSheet t = (r : List ℕ) × (net : Net) × (read_net r ≡ accepted net) × (table_of_net net ≡ t)

-- some gates under the table's header
abbrev pub net_with : Table → List Gate → Net
net_with t gates = record { header = t.header; gates = gates }

module _ (t : Table) (kept : FullTableRules t) where
  open full_facts t kept use {pos, several, inks_below}

  -- mark 2 at the whole group, a tree, and an accepted net sheet with the table are equivalent
  pub two_tree : HasTree t ↔ WholeTwo t
  two_tree = tree_exists t.header.levels t.header.inputs pos several (ink_in t.inks) inks_below

  -- gates that are a net with the table print as such a sheet
  pub gates_sheet : (gates : List Gate) → IsNet t.header.levels t.header.inputs gates
      → Computes t.header.levels t.header.inputs gates (ink_in t.inks)
      → (read_net (printed_net (net_with t gates)) ≡ accepted (net_with t gates)) × (table_of_net (net_with t gates) ≡ t)
  unfolding table_of_net
  gates_sheet gates net has = (
    net_read_back (net_with t gates) (record { header = kept.header; gates = net }),
    λ i. record { header = t.header; inks = table_is t.header.levels t.header.inputs gates t.inks kept.count has i },
  )

  tree_sheet : HasTree t → HasSheet t
  tree_sheet tree = let (reads, table) = gates_sheet tree.0 tree.1 tree.2 in (printed_net (net_with t tree.0), net_with t tree.0, reads, table)

  -- the net made from a table has exactly that table
  pub made_table : WholeTwo t → table_of_net (settled_net t) ≡ t
  unfolding table_of_net settled_net
  made_table two =
      let net = settled_net_lem t.header.levels t.header.inputs pos several (ink_in t.inks) inks_below two in
      λ i. record { header = t.header; inks = table_is t.header.levels t.header.inputs (settled_net t).gates t.inks kept.count net.1 i }

  -- and follows every rule of a net
  pub made_kept : WholeTwo t → NetRules (settled_net t)
  unfolding settled_net
  made_kept two = record {
    header = kept.header;
    gates = (settled_net_lem t.header.levels t.header.inputs pos several (ink_in t.inks) inks_below two).0;
  }

-- the gates of such a sheet
pub sheet_gates : (t : Table) (r : List ℕ) (net : Net) → read_net r ≡ accepted net → table_of_net net ≡ t
    → IsNet t.header.levels t.header.inputs net.gates × Computes t.header.levels t.header.inputs net.gates (ink_in t.inks)
unfolding table_of_net
sheet_gates t r net reads table =
    subst (λ (u : Table). IsNet u.header.levels u.header.inputs net.gates
    × Computes u.header.levels u.header.inputs net.gates (ink_in u.inks))
    table ((net_accepted r net reads).1.gates, λ p h. sym (table_at net.header.levels net.header.inputs net.gates p h))

pub sheet_tree : (t : Table) → HasSheet t → HasTree t
sheet_tree t has = let (net, computes) = sheet_gates t has.0 has.1 has.2 has.3 in (has.1.gates, net, computes)

-- ---- what was written

-- whatever the buffers, a written sheet is that of the net made of the table, and the whole group has mark 2
pub into_accepted : (net_for : Table → Net) (t : Table) (cells marks output sheet : List ℕ) → sheet_of (made_into net_for t cells marks output) ≡ accepted sheet
    → WholeTwo t × (printed_net (net_for t) ≡ sheet)
unfolding in_room sheet_in written_sheet
into_accepted net_for t cells marks output sheet =
    by_answer Wrote (room_for t cells marks) _ _ (λ _ _. by_cases (ℕ_discrete _ 2)
    (λ two. subst⁻¹ Wrote (marked_tree net_for t cells marks output two)
    (by_test Wrote (ltb (length output) (length (printed_net (net_for t)))) _ _ (λ e. absurd (not_refused sheet 15 _ (sym e)))
    (λ e. (two, sym (written_front output (printed_net (net_for t))) ∙ accepted_inj _ sheet e))))
    (λ other. subst⁻¹ Wrote (marked_16 net_for t cells marks output other) (λ e. absurd (not_refused sheet 16 _ (sym e)))))
    (λ number place _ e. absurd (not_refused sheet number place (sym e)))
  where
    Wrote : Made → Type 0
    Wrote made = sheet_of made ≡ accepted sheet → WholeTwo t × (printed_net (net_for t) ≡ sheet)

-- the two ways in which making ends on an accepted sheet of a full table with long buffers
pub data Making (t : Table) (made : Made) : Type 0 where
  no_tree_lem : (HasTree t → ⊥) → made.answer ≡ refused 16 (no_tree_place t.header.inputs (marks_of_table t)) → Making t made
  some_tree : HasTree t → sheet_of made ≡ accepted (printed_net (settled_net t)) → Making t made

-- ---- the demand

module _ (s : List ℕ) (t : Table) (reads : read_full s ≡ accepted t) where
  kept : FullTableRules t
  kept = (full_accepted s t reads).1

  -- Making refuses the table with 16 exactly if no gate list, whatever its wiring and its tables, is a net that computes it, ..
  pub make_refuses : (cells marks output : List ℕ) → t.header.levels ^ t.header.inputs ≤ length cells → marks_length t.header.inputs ≤ length marks
      → ((place : ℕ) × ((make_call s cells marks output).answer ≡ refused 16 place)) ↔ (HasTree t → ⊥)
  unfolding any
  make_refuses cells marks output cells_fit marks_fit =
      let marked = make_accepted s cells marks output t reads ∙ into_marked t cells marks output _ cells_fit marks_fit in (
        λ r tree. not_given_lem (15 ∷ []) _
            (sheet_numbers (15 ∷ []) refl (printed_net (settled_net t)) (written cells t.inks) (written marks (stored_marks (marks_of_table t))) output)
            16 r.0 refl
            (sym (ap (λ (made : Made). made.answer) (marked ∙ marked_tree settled_net t cells marks output ((two_tree t kept).0 tree))) ∙ r.1),
        λ none. (
          no_tree_place t.header.inputs (marks_of_table t),
          ap (λ (made : Made). made.answer) (marked ∙ marked_16 settled_net t cells marks output (λ two. none ((two_tree t kept).1 two))),
        ),
      )

  -- .. and so exactly if no accepted net sheet with those levels and names has that table.
  pub make_refuses_sheets : (cells marks output : List ℕ) → t.header.levels ^ t.header.inputs ≤ length cells
      → marks_length t.header.inputs ≤ length marks
      → ((place : ℕ) × ((make_call s cells marks output).answer ≡ refused 16 place)) ↔ (HasSheet t → ⊥)
  make_refuses_sheets cells marks output cells_fit marks_fit =
      let iff = make_refuses cells marks output cells_fit marks_fit in
      (λ r has. iff.0 r (sheet_tree t has), λ none. iff.1 (λ tree. none (tree_sheet t kept tree)))

  -- Otherwise making writes the sheet of the table's settled net, ..
  pub makes : (cells marks output : List ℕ) → HasTree t → Long t cells marks output
      → sheet_of (make_call s cells marks output) ≡ accepted (printed_net (settled_net t))
  makes cells marks output tree long =
      ap sheet_of (make_accepted s cells marks output t reads) ∙ net_written settled_net t cells marks output ((two_tree t kept).0 tree) long

  -- .. which is accepted as that net, and is never over 512 bytes long, ..
  pub made_accepted : HasTree t → read_net (printed_net (settled_net t)) ≡ accepted (settled_net t)
  made_accepted tree = net_read_back (settled_net t) (made_kept t kept ((two_tree t kept).0 tree))

  pub made_short : HasTree t → length (printed_net (settled_net t)) ≤ most_settled
  made_short tree = net_length (settled_net t) (made_kept t kept ((two_tree t kept).0 tree))

  -- .. the same sheet that settling writes from every accepted net sheet with that table and that header.
  pub make_as_settle : (r : List ℕ) (net : Net) → read_net r ≡ accepted net → net.header ≡ t.header → (table_of_net net).inks ≡ t.inks
      → (cells marks output cells' marks' output' : List ℕ) → Long t cells marks output → Long (table_of_net net) cells' marks' output'
      → sheet_of (make_call s cells marks output) ≡ sheet_of (settle_call r cells' marks' output')
  unfolding table_of_net
  make_as_settle r net reads_net header inks cells marks output cells' marks' output' long long' =
      let same : table_of_net net ≡ t = table_path (table_of_net net) t header inks in
      makes cells marks output (sheet_tree t (r, net, reads_net, same)) long
      ∙ ap (λ (u : Table). accepted (printed_net (settled_net u))) (sym same)
      ∙ sym (settles r net reads_net cells' marks' output' long')

  -- So making ends in one of the two ways, if the output has room for the settled sheet when there is one.
  pub make_either : (cells marks output : List ℕ) → t.header.levels ^ t.header.inputs ≤ length cells → marks_length t.header.inputs ≤ length marks
      → (HasTree t → length (printed_net (settled_net t)) ≤ length output) → Making t (make_call s cells marks output)
  make_either cells marks output cells_fit marks_fit output_fits = by_cases (ℕ_discrete _ 2)
      (λ two.
      let tree = (two_tree t kept).1 two in
      some_tree tree (makes cells marks output tree (record { cells_fit = cells_fit; marks_fit = marks_fit; output_fits = output_fits tree })))
      (λ other. no_tree_lem (λ tree. other ((two_tree t kept).0 tree))
      (ap (λ (made : Made). made.answer)
      (make_accepted s cells marks output t reads ∙ into_marked t cells marks output _ cells_fit marks_fit
      ∙ marked_16 settled_net t cells marks output other)))

  -- The sheet that making leaves in the output, whatever the buffers, is a net that has exactly that table.
  pub made_sheet : (cells marks output sheet : List ℕ) → sheet_of (make_call s cells marks output) ≡ accepted sheet
      → (read_net sheet ≡ accepted (settled_net t)) × (table_of_net (settled_net t) ≡ t)
  made_sheet cells marks output sheet e =
      let (two, same) = into_accepted settled_net t cells marks output sheet (sym (ap sheet_of (make_accepted s cells marks output t reads)) ∙ e) in
      (ap read_net (sym same) ∙ made_accepted ((two_tree t kept).1 two), made_table t kept two)
