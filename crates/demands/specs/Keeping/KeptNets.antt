-- Document 02, K10 and K12, stated for nets and full tables: when a net's wiring can be filled for a table, and what filling it gives.
-- Assumes nothing.
use Rattle.std.specs.Prelude.{◌<◌, ◌≤◌, ◌^◌, ◌≡◌, ◌↔◌, ◌⊎◌, ◌&&◌}
use Rattle.laws.specs.Prelude.{ℕ, ◌∙◌, sym, ap, refl, subst⁻¹, ⊎_elim, inl, inr, true, false, Bool, not, true≢false}
use Rattle.laws.specs.Prelude.{and-eq-true_iff, List, arith, eqb, length, get_or, not-true}
use Rattle.rules.specs.Calls.Answers.{ink_in}
use Rattle.rules.specs.Calls.FamilyCalls.{family_net}
use Rattle.rules.specs.Calls.Keeping.{gate_links, kept_gates, kept_net, roomy_before, leaves_out}
use Rattle.rules.specs.Calls.Settling.{settled_net}
use Rattle.rules.specs.Lists.{range, any, those, first_place}
use Rattle.rules.specs.Nets.Arrivals.{used_inputs}
use Rattle.rules.specs.Nets.Family.{family_gates}
use Rattle.rules.specs.Nets.Leaves.{matters}
use Rattle.rules.specs.Nets.Settled.{settled_gates}
use Rattle.rules.specs.Sheets.Reading.{table_of_net}
use Rattle.rules.specs.Sheets.SheetRules.{NetRules}
use Rattle.rules.specs.Sheets.Sheets.{Header, Gate, Net, Table, used_by}
use Rattle.demands.specs.Sheets.FullSheets.{FullTableRules}
use Rattle.laws.specs.Lists.Tests.{not_false_true}
use Rattle.laws.specs.Lists.FirstPlaces.{first_passing}
use Rattle.laws.specs.Lists.Places.{mem_get_or}
use Rattle.laws.specs.Lists.Ranges.{range_mem}
use Rattle.trees.specs.Trees.NetTables.{levels_pos}
use Rattle.trees.specs.Trees.Uniqueness.{table_is, table_at}
use Rattle.trees.specs.Keeping.KeptLinks.{same_used, same_net, kept_links, kept_by_links, filled_kept, kept_again}
use Rattle.trees.specs.Keeping.KeptWirings.{Filling, leaves_out_none, filling_uses, filling_few, kept_fills, all_roomy, no_filling}

-- A filling of the net's wiring that computes the table: the same left and right at every gate line, with any gate tables.
abbrev pub FillingFor : Net → Table → List Gate → Type 0
FillingFor net t filling = Filling net.header.levels net.header.inputs (ink_in t.inks) net.gates filling

-- the wiring has room for the table: it leaves out no input that matters, and each gate's group has at most m classes
abbrev pub Roomy : Net → Table → Type 0
Roomy net t = (leaves_out net t ≡ false) × (length net.gates ≤ roomy_before net t)

-- "A kept wiring that leaves out an input that matters" (document 02, K12): such an input
pub record LeftOut (net : Net) (t : Table) : Type 0 where
  pub input : ℕ
  pub below : input < net.header.inputs
  pub unused : any (eqb input) (used_by net.gates) ≡ false
  pub mattering : matters net.header.levels net.header.inputs (ink_in t.inks) input ≡ true

-- the test finds it
pub left_out : (net : Net) (t : Table) → (leaves_out net t ≡ true) ↔ LeftOut net t
unfolding leaves_out
left_out net t = (
  λ out.
      let (k<, passes) = first_passing test 0 (range 0 net.header.inputs) out in
      let i : ℕ = get_or (range 0 net.header.inputs) (first_place test (range 0 net.header.inputs)) 0 in
      let (free, is) = (and-eq-true_iff _ _).0 passes in
      record {
        input = i;
        below = omega (
          arith,
          (range_mem 0 net.header.inputs i
              (mem_get_or (range 0 net.header.inputs) (first_place test (range 0 net.header.inputs)) 0 k<)).1,
        );
        unused = not-true (any (eqb i) (used_by net.gates)) free;
        mattering = is;
      },
  λ is. not_false_true (leaves_out net t) (λ none. true≢false (sym ((leaves_out_none net t).0 none is.input is.below is.mattering) ∙ is.unused)),
)
  where
    test : ℕ → Bool
    test i = not (any (eqb i) (used_by net.gates)) && matters net.header.levels net.header.inputs (ink_in t.inks) i

module _ (net : Net) (t : Table) (kept : NetRules net) (kept_t : FullTableRules t) (header : net.header ≡ t.header) where
  open net.header use {levels as m, inputs as n}

  pos : 0 < m
  pos = levels_pos m kept.header.levels

  inks_count : length t.inks ≡ m ^ n
  inks_count = kept_t.count ∙ ap (λ (h : Header). h.levels ^ h.inputs) (sym header)

  inks_below : (p : ℕ) → p < m ^ n → ink_in t.inks p < m
  inks_below p h =
      subst⁻¹ (λ (k : Header). ink_in t.inks p < k.levels) header (kept_t.below p (subst⁻¹ (λ (k : ℕ). p < k) inks_count h))

  -- "exactly when no filling of that wiring computes the table", whatever the digits
  pub crowded_exactly : ((leaves_out net t ≡ true) ⊎ (roomy_before net t < length net.gates)) ↔ ((filling : List Gate) → FillingFor net t filling → ⊥)
  unfolding roomy_before
  crowded_exactly =
      let exactly = no_filling m n pos (ink_in t.inks) net.gates kept.gates inks_below in (
        λ why. exactly.0 (⊎_elim (λ out. inl (λ uses. true≢false (sym out ∙ (leaves_out_none net t).1 uses))) inr why),
        λ none. ⊎_elim (λ out. inl (not_false_true (leaves_out net t) (λ takes. out ((leaves_out_none net t).0 takes)))) inr (exactly.1 none),
      )

  pub filling_roomy : (filling : List Gate) → FillingFor net t filling → Roomy net t
  unfolding roomy_before
  filling_roomy filling fills = (
    (leaves_out_none net t).1 (filling_uses m n pos (ink_in t.inks) net.gates kept.gates filling fills),
    (all_roomy m n pos (ink_in t.inks) net.gates kept.gates).1 (filling_few m n pos (ink_in t.inks) net.gates kept.gates filling fills),
  )

  module _ (roomy : Roomy net t) where
    -- otherwise the class rule's gates are such a filling, ..
    pub kept_filling : FillingFor net t (kept_net net t).gates
    unfolding roomy_before kept_net
    kept_filling =
        kept_fills m n pos (ink_in t.inks) net.gates kept.gates
        ((all_roomy m n pos (ink_in t.inks) net.gates kept.gates).0 roomy.1) ((leaves_out_none net t).0 roomy.0) inks_below

    -- .. with which the net follows every rule of a net sheet ..
    pub kept_keeps : NetRules (kept_net net t)
    unfolding kept_net
    kept_keeps = record {
      header = kept.header;
      gates = same_net m n net.gates (kept_net net t).gates kept_filling.wiring kept.gates
          kept_filling.tables;
    }

    -- .. and has exactly the table
    pub kept_has_table : table_of_net (kept_net net t) ≡ t
    unfolding kept_net table_of_net
    kept_has_table = λ i. record {
      header = header i;
      inks = table_is m n (kept_net net t).gates t.inks inks_count kept_filling.computes i;
    }

  -- "the given wiring": left and right of each gate line stay, and so does the header
  pub kept_wiring : gate_links (kept_net net t).gates ≡ gate_links net.gates
  unfolding kept_net
  kept_wiring = kept_links m n (ink_in t.inks) net.gates

  -- so the same inputs are used
  pub kept_inputs : used_inputs n (kept_net net t).gates ≡ used_inputs n net.gates
  unfolding used_inputs
  kept_inputs = ap (λ (used : List ℕ). those (λ i. any (eqb i) used) (range 0 n)) (same_used net.gates (kept_net net t).gates kept_wiring)

  -- a net with the table is its own filling, so its wiring has room
  pub own_roomy : table_of_net net ≡ t → Roomy net t
  unfolding table_of_net
  own_roomy has =
      filling_roomy net.gates
      (record {
        wiring = refl;
        tables = kept.gates.rules.tables;
        computes = λ p h.
            sym (table_at m n net.gates p h) ∙ ap (λ (u : Table). ink_in u.inks p) has;
      })

-- the header stays
pub kept_header : (net : Net) (t : Table) → (kept_net net t).header ≡ net.header
unfolding kept_net
kept_header net t = refl

-- keeping again changes nothing
pub kept_twice : (net : Net) (t : Table) → kept_net (kept_net net t) t ≡ kept_net net t
unfolding kept_net
kept_twice net t =
    let same = kept_again net.header.levels net.header.inputs (ink_in t.inks) net.gates in
    λ i. record { header = net.header; gates = same i }

-- both have the table's header
pub settled_header : (t : Table) → (settled_net t).header ≡ t.header
unfolding settled_net
settled_header t = refl

pub family_header : (number : ℕ) (t : Table) → (family_net number t).header ≡ t.header
unfolding family_net
family_header number t = refl

-- keeping the settled net's own wiring gives the settled net, ..
pub settled_refilled : (t : Table) → kept_net (settled_net t) t ≡ settled_net t
unfolding kept_net settled_net settled_gates
settled_refilled t =
    let same = filled_kept t.header.levels t.header.inputs (ink_in t.inks) _ in
    λ i. record { header = t.header; gates = same i }

-- .. the same holds for every net of the family, ..
pub family_kept_own : (number : ℕ) (t : Table) → kept_net (family_net number t) t ≡ family_net number t
unfolding kept_net family_net family_gates
family_kept_own number t =
    let same = filled_kept t.header.levels t.header.inputs (ink_in t.inks) _ in
    λ i. record { header = t.header; gates = same i }

-- .. and nets with the same header and wiring are kept as the same net, whatever their gate tables
pub kept_by_wiring : (net other : Net) (t : Table) → other.header ≡ net.header → gate_links other.gates ≡ gate_links net.gates
    → kept_net other t ≡ kept_net net t
unfolding kept_net
kept_by_wiring net other t header same =
    let gates = kept_by_links net.header.levels net.header.inputs (ink_in t.inks) net.gates other.gates same in
    ap (λ (h : Header). record { header = h; gates = kept_gates h.levels h.inputs (ink_in t.inks) other.gates }) header
    ∙ (λ i. record { header = net.header; gates = gates i })

-- and a filling of one wiring is a filling of the other
pub refilled : (net other : Net) (t : Table) → net.header ≡ other.header → gate_links net.gates ≡ gate_links other.gates → {filling : List Gate}
    → FillingFor other t filling → FillingFor net t filling
refilled net other t header same {filling} fills =
    subst⁻¹ (λ (h : Header). Filling h.levels h.inputs (ink_in t.inks) net.gates filling) header
    (record { wiring = fills.wiring ∙ sym same; tables = fills.tables; computes = fills.computes })
