-- All net sheets with one header that use the same inputs have the same length: each has the same references and equally many digits.
-- Assumes nothing.
use Rattle.std.specs.Prelude.{◌+◌, ◌-◌, ◌*◌, ◌≡◌, ◌∷◌}
use Rattle.laws.specs.Prelude.{ℕ, ◌∙◌, sym, ap, ap₂, subst⁻¹, List, [], map, arith, length, length-append, length-map}
use Rattle.rules.specs.Lists.{range, concat_map, total}
use Rattle.rules.specs.Nets.Arrivals.{used_inputs}
use Rattle.rules.specs.Sheets.Printed.{line, printed_gate, printed_net}
use Rattle.rules.specs.Sheets.SheetRules.{GateTable, Tables, IsNet, NetRules}
use Rattle.rules.specs.Sheets.Sheets.{Header, Gate, Net, reference_text, used_by}
use Rattle.trees.specs.Trees.UsedOnce.{used_sum, used_inputs_length}

module _ (m : ℕ) (names : List (List ℕ)) where
  -- how many bytes a reference has
  reference_length : ℕ → ℕ
  reference_length r = length (reference_text names r)

  -- a gate line: two references, the digits and three separators
  gate_length : (g : Gate) → GateTable m g.digits → length (printed_gate names g) ≡ reference_length g.left + reference_length g.right + (m * m + 3)
  unfolding printed_gate line reference_length
  gate_length g t = simp (length-append, length-map) (omega (arith, t.count))

  -- all gate lines
  gates_length : (gates : List Gate) → Tables m gates
      → length (concat_map (printed_gate names) gates) ≡ total (map reference_length (used_by gates)) + length gates * (m * m + 3)
  unfolding concat_map total used_by
  gates_length [] t = omega arith
  gates_length (g ∷ gates) t = rw length-append (omega (arith, gate_length g t.0, gates_length gates t.1))

  -- two nets that use the same inputs have the same references
  same_gates_length : (n : ℕ) (g h : List Gate) → IsNet m n g → IsNet m n h → used_inputs n g ≡ used_inputs n h
      → length (concat_map (printed_gate names) g) ≡ length (concat_map (printed_gate names) h)
  same_gates_length n g h net_g net_h same =
      let count : length g ≡ length h = omega (arith, used_inputs_length m n g net_g, used_inputs_length m n h net_h, ap length same) in
      gates_length g net_g.rules.tables
      ∙ ap (λ (s : ℕ). s + length g * (m * m + 3)) (used_sum reference_length m n g net_g)
      ∙ ap₂ (λ (k : ℕ) (used : List ℕ). total (map reference_length used) + total (map reference_length (range n (k - 1))) + k * (m * m + 3)) count same
      ∙ ap (λ (s : ℕ). s + length h * (m * m + 3)) (sym (used_sum reference_length m n h net_h))
      ∙ sym (gates_length h net_h.rules.tables)

-- for one header
under_header : (h : Header) (g g' : List Gate) → IsNet h.levels h.inputs g → IsNet h.levels h.inputs g'
    → used_inputs h.inputs g ≡ used_inputs h.inputs g'
    → length (printed_net (record { header = h; gates = g })) ≡ length (printed_net (record { header = h; gates = g' }))
unfolding printed_net
under_header h g g' net net' used = simp (length-append, same_gates_length h.levels h.names h.inputs g g' net net' used)

-- the sheets of two nets with the same levels, inputs and names that use the same inputs, whatever their wiring and gate tables
pub equally_long : (net other : Net) → NetRules net → NetRules other → net.header ≡ other.header
    → used_inputs net.header.inputs net.gates ≡ used_inputs net.header.inputs other.gates
    → length (printed_net net) ≡ length (printed_net other)
equally_long net other kept kept' same used =
    under_header net.header net.gates other.gates kept.gates
    (subst⁻¹ (λ (h : Header). IsNet h.levels h.inputs other.gates) same kept'.gates) used
    ∙ ap (λ (h : Header). length (printed_net (record { header = h; gates = other.gates }))) same
