-- A net that keeps the rules of a net sheet meets the requirements of printing.
-- Assumes nothing.
use Rattle.std.specs.Prelude.{◌<◌, ◌≤◌, ◌-◌, ◌*◌, ◌%◌, ◌/◌, ◌≡◌, ◌∷◌}
use Rattle.laws.specs.Prelude.{ℕ, suc, zero, ◌∙◌, sym, ap, subst, List, [], zero-add, mul-le-mul_right, le_trans}
use Rattle.laws.specs.Prelude.{mod-lt, div-lt_iff_lt-mul, div-add-mod', mul-zero, arith, length, get_or, drop, get_or-take, get_or-drop}
use Rattle.rules.specs.Sheets.Sheets as sheets
use Rattle.rules.specs.Sheets.SheetRules.{NetRules, GateTable, Tables}
use Rattle.nets.specs.declared.forms.Header.{Header}
use Rattle.nets.specs.declared.forms.Net.{Net}
use Rattle.nets.specs.Forms.{header_of, gate_of, gates_of, net_in}
use Rattle.nets.specs.Sound.{gates_length}
use Rattle.nets.specs.Room.{digits_room}
use Rattle.laws.specs.Numbers.Sizes.{levels_fit_lem, inputs_fit_lem, kept_fits}
use Rattle.laws.specs.Lists.Ranges.{map_range_at}
use Rattle.net_sheets.specs.Printer.Gates.{GatesInside}

-- each digit belongs to a gate

tables_at : (m : ℕ) (gates : List sheets.Gate) (k : ℕ) (d : sheets.Gate) → Tables m gates → k < length gates → GateTable m (get_or gates k d).digits
tables_at m [] k d t h = absurd (omega arith)
tables_at m (g ∷ gates) zero d t h = t.0
tables_at m (g ∷ gates) (suc k) d t h = tables_at m gates k d t.1 (omega arith)

factor_positive : (a b i : ℕ) → i < a * b → 0 < b
factor_positive a zero i h = absurd (omega (arith, rw mul-zero at h))
factor_positive a (suc b) i h = omega arith

module _ (net : Net) (tables : Tables net.levels (gates_of net)) where
  gate_table : (k : ℕ) → k < net.gates → GateTable net.levels (gate_of net k).digits
  unfolding gates_of
  gate_table k h =
      subst (λ (g : sheets.Gate). GateTable net.levels g.digits) at (tables_at net.levels (gates_of net) k (gate_of net 0) tables (rw gates_length h))
    where
      at : get_or (gates_of net) k (gate_of net 0) ≡ gate_of net k
      at = map_range_at (gate_of net) 0 net.gates k (gate_of net 0) h ∙ ap (gate_of net) (zero-add k)

  digit_below_lem : (i : ℕ) → i < net.gates * (net.levels * net.levels) → get_or net.digits i 0 < net.levels
  unfolding gate_of
  digit_below_lem i h =
      let size = net.levels * net.levels in
      let pos = factor_positive net.gates size i h in
      let k = i / size in
      let j = i % size in
      let table = gate_table k ((div-lt_iff_lt-mul pos).1 h) in
      let below : j < size = mod-lt i pos in
      let here : get_or (gate_of net k).digits j 0 ≡ get_or net.digits i 0 =
      get_or-take size (drop (k * size) net.digits) j 0 below ∙ get_or-drop (k * size) net.digits j 0
      ∙ ap (λ (q : ℕ). get_or net.digits q 0) (div-add-mod' i size) in
      subst (λ (d : ℕ). d < net.levels) here (table.below j (omega (arith, table.count)))

pub gates_inside : (s : List ℕ) (h : Header) (net : Net) → net.levels ≡ h.levels → NetRules (net_in s h net) → GatesInside net
unfolding header_of
gates_inside s h net e kept =
    let size = h.levels * h.levels in
    let count : net.gates ≤ h.inputs - 1 = omega (arith, gates_length net, kept.gates.count) in
    let few = ((levels_fit_lem h.levels).0 kept.header.levels).1 in
    let tables = subst (λ (m : ℕ). Tables m (gates_of net)) (sym e) kept.gates.rules.tables in
    record {
      count = omega (arith, ((inputs_fit_lem h.inputs).0 kept.header.inputs).1);
      room = rw e (le_trans (mul-le-mul_right size count) (digits_room h.levels h.inputs (kept_fits (header_of s h) kept.header)));
      digits = λ k l. omega (arith, few, e, digit_below_lem net tables k l);
    }
