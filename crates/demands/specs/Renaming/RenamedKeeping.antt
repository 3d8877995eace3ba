-- Document 02, K14, for a kept wiring: for two full table sheets, one a renaming of the other's inks, a net sheet is refused with
-- the same number and place, or kept for both. Then the two sheets differ only by the renaming in the last table, and the sets of the gates that
-- changed agree except for the last gate.
-- Assumes nothing.
use Rattle.std.specs.Prelude.{◌<◌, ◌≤◌, ◌^◌, ◌≡◌, ◌≢◌}
use Rattle.laws.specs.Prelude.{ℕ, suc, ◌∙◌, sym, ap, refl, subst, subst⁻¹, true, false, Bool, List, lt_of_not-le, dec_le, length}
use Rattle.laws.specs.Prelude.{take, test_cases, answer_cases}
use Rattle.rules.specs.Calls.Answers.{accepted, Named, net_named, neither, ink_in, written}
use Rattle.rules.specs.Calls.Checking.{same_header}
use Rattle.rules.specs.Calls.Keeping.{rewritten, turned_away, KeptWiring, kept_net, roomy_before, leaves_out, changed_gates, keep_call, kept_into}
use Rattle.rules.specs.Calls.OpenCells.{full_table}
use Rattle.rules.specs.Groups.Groups.{member}
use Rattle.rules.specs.Sheets.Printed.{printed_net}
use Rattle.rules.specs.Sheets.Reading.{read_net, read_table}
use Rattle.rules.specs.Sheets.SheetRules.{NetRules}
use Rattle.rules.specs.Sheets.Sheets.{Header, Net, Table}
use Rattle.laws.specs.Calls.Answers.{written_front}
use Rattle.laws.specs.Calls.OpenCells.{read_accepted}
use Rattle.laws.specs.Calls.Keeping.{keep_net_refused, keep_accepted, keep_12, keep_23_0, keep_23, keep_written}
use Rattle.trees.specs.Trees.NetTables.{levels_pos}
use Rattle.trees.specs.Renaming.Renaming.{Renamed, SameInks, renamed_same}
use Rattle.trees.specs.Renaming.RenamedWirings.{roomy_before_renamed, leaves_out_renamed}
use Rattle.trees.specs.Renaming.ButLast.{but_last_changed}
use Rattle.trees.specs.Renaming.RenamedGates.{RenamedGates}
use Rattle.trees.specs.Renaming.RenamedNets.{kept_renamed}
use Rattle.trees.specs.Keeping.KeptLinks.{kept_length}
use Rattle.trees.specs.Keeping.KeptWirings.{all_roomy}
use Rattle.readback.specs.Sheets.ReadBack.{net_accepted}
use Rattle.laws.specs.Calls.Checking.{same_header_lem, header_same}
use Rattle.demands.specs.Keeping.KeptNets.{Roomy}
use Rattle.demands.specs.Keeping.Keeping.{Past, kept_accepted, kept_as_long}
use Rattle.demands.specs.Renaming.RenamedSheets.{RenamedTables, renamed_table, kept_one, kept_other, reads_renamed, renamed_inks_below}
use Rattle.demands.specs.Renaming.RenamedSheets.{inks_renamed, RenamedNets, renamed_long, nets_renamed}

-- The results of the two calls on the net sheet q.
pub data AlikeKept (r : ℕ → ℕ) (q : List ℕ) (made other : KeptWiring) : Type 0 where
  -- both refused, with the same number and place, for the same sheet or for neither
  both_refused : (named : Named) (number place : ℕ) → made.answer ≡ turned_away named number place → other.answer ≡ turned_away named number place
      → AlikeKept r q made other
  -- both kept: sheets that differ only by the renaming, and sets that agree at every gate of the net but the last
  both_kept : (count changed changed' : ℕ) (net : Net) → made.answer ≡ rewritten count changed → other.answer ≡ rewritten count changed'
      → RenamedNets r (take count made.output) (take count other.output)
      → read_net q ≡ accepted net → ((k : ℕ) → k ≢ length net.gates → member k changed ≡ member k changed') → AlikeKept r q made other

module _ (r : ℕ → ℕ) (s other : List ℕ) (both : RenamedTables r s other) where
  abbrev t : Table
  t = both.table

  abbrev u : Table
  u = renamed_table r t

  abbrev need : ℕ
  need = t.header.levels ^ t.header.inputs

  -- both are read, and judged full
  read_one : (read_table s ≡ accepted t) × (full_table t ≡ accepted tt)
  read_one = read_accepted s t both.reads

  read_other : (read_table other ≡ accepted u) × (full_table u ≡ accepted tt)
  read_other = read_accepted other u (reads_renamed r s other both)

  -- ---- a net of the tables' levels, inputs and names

  module _ (q : List ℕ) (net : Net) (reads : read_net q ≡ accepted net) (header : net.header ≡ t.header) where
    open net.header use {levels as m, inputs as n}

    kept_net_lem : NetRules net
    kept_net_lem = (net_accepted q net reads).1

    pos : 0 < m
    pos = levels_pos m kept_net_lem.header.levels

    -- what holds for the tables' levels and inputs holds for the net's
    below : (p : ℕ) → p < m ^ n → ink_in t.inks p < m
    below = subst⁻¹ (λ (h : Header). (p : ℕ) → p < h.levels ^ h.inputs → ink_in t.inks p < h.levels) header (renamed_inks_below r s other both)

    renamed : Renamed m n r (ink_in t.inks) (ink_in u.inks)
    renamed = subst⁻¹ (λ (h : Header). Renamed h.levels h.inputs r (ink_in t.inks) (ink_in u.inks)) header (inks_renamed r s other both)

    same : SameInks m n (ink_in t.inks) (ink_in u.inks)
    same = renamed_same m n r (ink_in t.inks) (ink_in u.inks) below renamed

    -- it leaves out an input that matters to both or to neither, and the first gate with too many classes is the same
    same_out : leaves_out net t ≡ leaves_out net u
    same_out = leaves_out_renamed net t u pos same

    same_roomy : roomy_before net t ≡ roomy_before net u
    same_roomy = roomy_before_renamed net t u pos same

    module _ (cells output cells' output' : List ℕ) (cells_fit : need ≤ length cells) (cells_fit' : need ≤ length cells') (fits : length q ≤ length output)
        (fits' : length q ≤ length output') where
      past : Past q s cells
      past = record { net = net; table = t; reads_net = reads; reads_table = both.reads; header = header; long = cells_fit }

      past' : Past q other cells'
      past' = record { net = net; table = u; reads_net = reads; reads_table = reads_renamed r s other both; header = header; long = cells_fit' }

      -- if the wiring has room for the tables, both are kept
      module _ (takes : leaves_out net t ≡ false) (roomy : length net.gates ≤ roomy_before net t) where
        room : Roomy net t
        room = (takes, roomy)

        room' : Roomy net u
        room' = (sym same_out ∙ takes, subst (λ (k : ℕ). length net.gates ≤ k) same_roomy roomy)

        gates : RenamedGates m n r (kept_net net t).gates (kept_net net u).gates
        unfolding kept_net roomy_before
        gates =
            kept_renamed m n pos r (ink_in t.inks) (ink_in u.inks) below renamed net.gates kept_net_lem.gates
            ((all_roomy m n pos (ink_in t.inks) net.gates kept_net_lem.gates).0 roomy)

        sheets : RenamedNets r (printed_net (kept_net net t)) (printed_net (kept_net net u))
        unfolding kept_net past past'
        sheets = nets_renamed r net.header _ _ (kept_accepted q s cells past room) (kept_accepted q other cells' past' room') gates

        -- the last gate's number is the number of gates
        sets : (k : ℕ) → k ≢ length net.gates
            → member k (changed_gates net.gates (kept_net net t).gates) ≡ member k (changed_gates net.gates (kept_net net u).gates)
        unfolding kept_net
        sets k not_last =
            let count = kept_length m n (ink_in t.inks) net.gates in
            sym (but_last_changed (kept_net net t).gates (kept_net net u).gates gates.lines net.gates (sym count) k (λ e. not_last (e ∙ count)))

      judged : keep_call q s cells output ≡ kept_into net t cells output
      judged = keep_accepted q s cells output net reads t read_one.0

      judged' : keep_call q other cells' output' ≡ kept_into net u cells' output'
      judged' = keep_accepted q other cells' output' net reads u read_other.0

      alike : same_header net.header t.header ≡ true
      alike = same_header_lem net.header t.header header

      long : length t.inks ≤ length cells
      long = subst⁻¹ (λ (k : ℕ). k ≤ length cells) (kept_one r s other both).count cells_fit

      long' : length u.inks ≤ length cells'
      long' = subst⁻¹ (λ (k : ℕ). k ≤ length cells') (kept_other r s other both).count cells_fit'

      kept_alike : AlikeKept r q (keep_call q s cells output) (keep_call q other cells' output')
      unfolding past past'
      kept_alike = go (leaves_out net t) refl (dec_le (length net.gates) (roomy_before net t))
        where
          go : (out : Bool) → leaves_out net t ≡ out → Dec (length net.gates ≤ roomy_before net t)
              → AlikeKept r q (keep_call q s cells output) (keep_call q other cells' output')
          go true out _ =
              rw (
                judged ∙ keep_23_0 net t cells output alike read_one.1 long out,
                judged'
                    ∙ keep_23_0 net u cells' output' alike read_other.1 long' (sym same_out ∙ out),
              )
              (both_refused neither 23 0 refl refl)
          go false takes (no crowded) =
              rw (
                judged ∙ keep_23 net t cells output alike read_one.1 long takes (lt_of_not-le crowded),
                judged' ∙ keep_23 net u cells' output' alike read_other.1 long' (sym same_out ∙ takes)
                    (subst (λ (k : ℕ). k < length net.gates) same_roomy (lt_of_not-le crowded)),
              )
              (both_refused neither 23 (suc (roomy_before net t)) refl (ap (λ (k : ℕ). turned_away neither 23 (suc k)) (sym same_roomy)))
          go false takes (yes roomy) =
              let nets = sheets takes roomy in
              let (takes', roomy') = room' takes roomy in
              let as_long = renamed_long r _ _ nets in
              rw (
                judged ∙ keep_written net t cells output alike read_one.1 long takes roomy (rw (kept_as_long q s cells past (room takes roomy)) fits),
                judged' ∙ keep_written net u cells' output' alike read_other.1 long' takes' roomy'
                    (rw (kept_as_long q other cells' past' (room' takes roomy)) fits'),
              )
              (both_kept (length (printed_net (kept_net net t))) _ _ net refl
              (ap (λ (k : ℕ). rewritten k (changed_gates net.gates (kept_net net u).gates)) (sym as_long))
              (subst⁻¹ (λ (b : List ℕ). RenamedNets r b (take (length (printed_net (kept_net net t))) (written output' (printed_net (kept_net net u)))))
              (written_front output (printed_net (kept_net net t)))
              (subst⁻¹ (RenamedNets r (printed_net (kept_net net t)))
              (ap (λ (k : ℕ). take k (written output' (printed_net (kept_net net u)))) as_long ∙ written_front output' (printed_net (kept_net net u))) nets))
              reads (sets takes roomy))

  -- ---- any net sheet

  -- "given long enough buffers": for the cells, and for as many bytes as the net sheet has
  pub keeps_alike : (q cells output cells' output' : List ℕ) → need ≤ length cells → need ≤ length cells' → length q ≤ length output → length q ≤ length output'
      → AlikeKept r q (keep_call q s cells output) (keep_call q other cells' output')
  keeps_alike q cells output cells' output' cells_fit cells_fit' fits fits' = answer_cases (read_net q)
      (λ number place e.
      rw (keep_net_refused q s cells output number place e, keep_net_refused q other cells' output' number place e)
      (both_refused net_named number place refl refl))
      (λ net e. test_cases (same_header net.header t.header)
      (λ h. kept_alike q net e (header_same net.header t.header h) cells output cells' output' cells_fit cells_fit' fits fits')
      (λ h.
      rw (
        keep_accepted q s cells output net e t read_one.0 ∙ keep_12 net t cells output h,
        keep_accepted q other cells' output' net e u read_other.0 ∙ keep_12 net u cells' output' h,
      )
      (both_refused neither 12 0 refl refl)))
