-- Document 02, K14, stated for the calls that make a net of a table sheet: "Show that, given long enough buffers, two full table sheets with the same
-- first three lines, one got from the other by a one-to-one renaming of the ink levels, are both refused or both made. When made, their gate lines
-- agree in left and right throughout and in every table but the last. The last tables differ by that renaming at each digit that some assignment
-- reaches. Shallow nets keep it too." They are refused with the same number and place, and leave the same marks.
-- Assumes nothing.
use Rattle.std.specs.Prelude.{◌<◌, ◌≤◌, ◌^◌, ◌≡◌}
use Rattle.laws.specs.Prelude.{ℕ, ◌∙◌, sym, ap, refl, subst, subst⁻¹, List, ℕ_discrete, arith, length, take}
use Rattle.rules.specs.Calls.Answers.{accepted, refused, onward, ink_in, written}
use Rattle.rules.specs.Calls.Settling.{Made, settled_net, written_sheet, made_into, make_call}
use Rattle.rules.specs.Calls.ShallowSettling.{Layered, LayeredMade, shallow_net, net_layers, make_shallow_call, layered_into, with_layers, layered}
use Rattle.rules.specs.Groups.Groups.{whole_group}
use Rattle.rules.specs.Groups.Marks.{mark_in, marks_length, stored_marks}
use Rattle.rules.specs.Sheets.Printed.{printed_net}
use Rattle.rules.specs.Sheets.Sheets.{Net, Table}
use Rattle.laws.specs.Calls.Answers.{accepted_inj, not_refused, written_front}
use Rattle.laws.specs.Calls.Settling.{WholeTwo, marks_of_table, make_accepted, into_marked, marked_16, marked_tree, sheet_written}
use Rattle.laws.specs.Calls.ShallowSettling.{plain_answer, plain_layered, make_shallow_accepted}
use Rattle.laws.specs.Nets.StoredMarks.{stored_length, four_groups}
use Rattle.trees.specs.Groups.MarkRule.{marks_length_lem}
use Rattle.trees.specs.Trees.NetTables.{inputs_several}
use Rattle.trees.specs.Renaming.RenamedWirings.{shallow_layers_renamed}
use Rattle.trees.proofs.Renaming.RenamedNets.{settled_renamed, shallow_renamed}
use Rattle.trees.proofs.Shallow.ShallowTables.{shallow_kept}
use Rattle.readback.specs.Sheets.ReadBack.{net_read_back}
use Rattle.demands.specs.Sheets.FullSheets.{full_keeps}
use Rattle.demands.specs.Settling.Makes.{HasTree, two_tree, made_accepted}
use Rattle.demands.specs.Renaming.RenamedSheets.{letters_of, RenamedTables, kept_one, positive, is_renamed, reads_renamed, kept_other}
use Rattle.demands.specs.Renaming.RenamedSheets.{renamed_inks_below, inks_renamed, same_inks, same_marks, RenamedNets, renamed_long}
use Rattle.demands.specs.Renaming.RenamedSheets.{nets_renamed}

-- "given long enough buffers": for the cells, for the marks, and, if there is a tree, for the sheet of the net that is made
pub record Enough (net_for : Table → Net) (t : Table) (cells marks output : List ℕ) : Type 0 where
  pub cells_fit : t.header.levels ^ t.header.inputs ≤ length cells
  pub marks_fit : marks_length t.header.inputs ≤ length marks
  pub output_fits : HasTree t → length (printed_net (net_for t)) ≤ length output

-- The results of the two calls: the same answer, which is a refusal's number and place or a sheet's length; the same marks, for n inputs; and if
-- sheets are made, sheets that differ only by the renaming.
pub record AlikeMade (r : ℕ → ℕ) (n : ℕ) (made other : Made) : Type 0 where
  pub answers : made.answer ≡ other.answer
  pub marks : take (marks_length n) made.marks ≡ take (marks_length n) other.marks
  pub sheets : (count : ℕ) → made.answer ≡ accepted count → RenamedNets r (take count made.output) (take count other.output)

-- ---- how it ends, whatever net is made

module _ (r : ℕ → ℕ) (n : ℕ) (stored : List ℕ) (count : length stored ≡ marks_length n) (marks marks' : List ℕ) where
  -- the marks that both left
  pub left_marks : take (marks_length n) (written marks stored) ≡ take (marks_length n) (written marks' stored)
  left_marks = rw (← count) (written_front marks stored ∙ sym (written_front marks' stored))

  -- both refused
  pub alike_refused : (number place : ℕ) (cells cells' output output' : List ℕ)
      → AlikeMade r n (record { answer = refused number place; cells = cells; marks = written marks stored; output = output })
      (record { answer = refused number place; cells = cells'; marks = written marks' stored; output = output' })
  alike_refused number place cells cells' output output' =
      record { answers = refl; marks = left_marks; sheets = λ count e. absurd (not_refused count number place (sym e)) }

  -- both made
  pub alike_written : (sheet other cells cells' output output' : List ℕ) → RenamedNets r sheet other → length sheet ≤ length output
      → length other ≤ length output'
      → AlikeMade r n (written_sheet sheet cells (written marks stored) output) (written_sheet other cells' (written marks' stored) output')
  alike_written sheet other cells cells' output output' nets fits fits' =
      rw (sheet_written sheet cells (written marks stored) output fits, sheet_written other cells' (written marks' stored) output' fits')
      (record {
        answers = ap accepted (renamed_long r sheet other nets);
        marks = left_marks;
        sheets = λ count e.
            let own : length sheet ≡ count = accepted_inj _ count e in
            let its : length other ≡ count = sym (renamed_long r sheet other nets) ∙ own in
            subst⁻¹ (λ (b : List ℕ). RenamedNets r b (take count (written output' other)))
            (ap (λ (k : ℕ). take k (written output sheet)) (sym own) ∙ written_front output sheet)
            (subst⁻¹ (RenamedNets r sheet) (ap (λ (k : ℕ). take k (written output' other)) (sym its) ∙ written_front output' other) nets);
      })

-- the same for the calls that also return the layers
pub record AlikeLayered (r : ℕ → ℕ) (n : ℕ) (made other : LayeredMade) : Type 0 where
  pub answers : made.answer ≡ other.answer
  pub marks : take (marks_length n) made.marks ≡ take (marks_length n) other.marks
  pub sheets : (a : Layered) → made.answer ≡ accepted a → RenamedNets r (take a.length made.output) (take a.length other.output)

alike_layered : (r : ℕ → ℕ) (n count : ℕ) (made other : Made) → AlikeMade r n made other → AlikeLayered r n (with_layers count made) (with_layers count other)
unfolding with_layers plain_answer onward
alike_layered r n count made other alike = record {
  answers = ap (layered count) alike.answers;
  marks = alike.marks;
  sheets = λ a e. alike.sheets a.length (sym (plain_layered count made.answer) ∙ ap plain_answer e);
}

-- ---- the calls

module _ (r : ℕ → ℕ) (s other : List ℕ) (both : RenamedTables r s other) where
  open letters_of r s other both use {t, u, m, n}

  several : 1 < n
  several = inputs_several n (kept_one r s other both).header.inputs

  -- as many bytes of marks as are needed
  pub stored_count : length (stored_marks (marks_of_table t)) ≡ marks_length n
  stored_count =
      omega (arith, stored_length (marks_of_table t), marks_length_lem m n (positive r s other both) (ink_in t.inks), four_groups n several)

  -- if the whole group has mark 2 in one table, it has mark 2 in the other
  two_renamed : WholeTwo t → WholeTwo u
  two_renamed two = subst (λ (marks : List ℕ). mark_in marks (whole_group n) ≡ 2) (same_marks r s other both) two

  renamed_two : WholeTwo u → WholeTwo t
  renamed_two two = subst⁻¹ (λ (marks : List ℕ). mark_in marks (whole_group n) ≡ 2) (same_marks r s other both) two

  -- a call that makes any net, if the two nets' sheets differ only by the renaming
  into_alike : (net_for : Table → Net) → (WholeTwo t → RenamedNets r (printed_net (net_for t)) (printed_net (net_for u)))
      → (cells marks output cells' marks' output' : List ℕ) → Enough net_for t cells marks output → Enough net_for u cells' marks' output'
      → AlikeMade r n (made_into net_for t cells marks output) (made_into net_for u cells' marks' output')
  into_alike net_for nets cells marks output cells' marks' output' enough enough' =
      let judged' = into_marked u cells' marks' output' _ enough'.cells_fit enough'.marks_fit in
      let judged = into_marked t cells marks output _ enough.cells_fit enough.marks_fit in
      elim (ℕ_discrete (mark_in (marks_of_table t) (whole_group n)) 2) [
        | no none ↦
            rw (
              judged ∙ marked_16 net_for t cells marks output none,
              judged' ∙ marked_16 net_for u cells' marks' output' (λ two. none (renamed_two two)),
              ← (same_marks r s other both),
            )
            (alike_refused r n (stored_marks (marks_of_table t)) stored_count marks marks' 16 _ _ _ output output')
        | yes two ↦
            rw (
              judged ∙ marked_tree net_for t cells marks output two,
              judged' ∙ marked_tree net_for u cells' marks' output' (two_renamed two),
              ← (same_marks r s other both),
            )
            (alike_written r n (stored_marks (marks_of_table t)) stored_count marks marks' _ _ _ _ output output' (nets two)
            (enough.output_fits ((two_tree t (kept_one r s other both)).1 two))
            (enough'.output_fits ((two_tree u (kept_other r s other both)).1 (two_renamed two))))
      ]

  -- the two settled sheets
  settled_sheets : WholeTwo t → RenamedNets r (printed_net (settled_net t)) (printed_net (settled_net u))
  unfolding settled_net
  settled_sheets two =
      nets_renamed r t.header _ _ (made_accepted s t both.reads ((two_tree t (kept_one r s other both)).1 two))
      (made_accepted other u (reads_renamed r s other both) ((two_tree u (kept_other r s other both)).1 (two_renamed two)))
      (settled_renamed m n (positive r s other both) r (ink_in t.inks) (ink_in u.inks) (renamed_inks_below r s other both)
      (inks_renamed r s other both) several two)

  -- and the two shallow ones
  shallow_sheets : WholeTwo t → RenamedNets r (printed_net (shallow_net t)) (printed_net (shallow_net u))
  unfolding shallow_net
  shallow_sheets two =
      nets_renamed r t.header _ _
      (net_read_back (shallow_net t) (shallow_kept t (full_keeps t (kept_one r s other both)) (kept_one r s other both).below two))
      (net_read_back (shallow_net u) (shallow_kept u (full_keeps u (kept_other r s other both)) (kept_other r s other both).below (two_renamed two)))
      (shallow_renamed m n (positive r s other both) r (ink_in t.inks) (ink_in u.inks) (renamed_inks_below r s other both)
      (inks_renamed r s other both) several two)

  module _ (cells marks output cells' marks' output' : List ℕ) where
    -- for the calls' own sheets
    enough_renamed : (net_for : Table → Net) → Enough net_for both.renamed cells' marks' output' → Enough net_for u cells' marks' output'
    enough_renamed net_for enough' = subst (λ (v : Table). Enough net_for v cells' marks' output') (is_renamed r s other both) enough'

    -- Making: "are both refused or both made. When made, .."
    pub makes_renamed : Enough settled_net t cells marks output → Enough settled_net both.renamed cells' marks' output'
        → AlikeMade r n (make_call s cells marks output) (make_call other cells' marks' output')
    makes_renamed enough enough' =
        rw (make_accepted s cells marks output t both.reads, make_accepted other cells' marks' output' u (reads_renamed r s other both))
        (into_alike settled_net settled_sheets cells marks output cells' marks' output' enough (enough_renamed settled_net enough'))

    -- "Shallow nets keep it too.", with equally many layers
    pub shallow_makes_renamed : Enough shallow_net t cells marks output → Enough shallow_net both.renamed cells' marks' output'
        → AlikeLayered r n (make_shallow_call s cells marks output) (make_shallow_call other cells' marks' output')
    unfolding layered_into net_layers shallow_net
    shallow_makes_renamed enough enough' =
        let count : net_layers (shallow_net t) ≡ net_layers (shallow_net u) =
        shallow_layers_renamed m n (positive r s other both) (ink_in t.inks) (ink_in u.inks) (same_inks r s other both) in
        rw (
          make_shallow_accepted s cells marks output t both.reads,
          make_shallow_accepted other cells' marks' output' u (reads_renamed r s other both),
          ← count,
        )
        (alike_layered r n (net_layers (shallow_net t)) _ _
        (into_alike shallow_net shallow_sheets cells marks output cells' marks' output' enough (enough_renamed shallow_net enough')))
