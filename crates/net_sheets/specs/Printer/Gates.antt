-- A net's gates: what printing them requires, and the lines printed.
-- Assumes nothing.
use Rattle.std.specs.Prelude.{◌<◌, ◌≤◌, ◌+◌, ◌-◌, ◌*◌, ◌≡◌, ◌∷◌, ◌++◌}
use Rattle.laws.specs.Prelude.{ℕ, ◌∙◌, ap, List, [], map, append_assoc, zero-add, sub-zero, mul-le-mul_right}
use Rattle.laws.specs.Prelude.{arith, length, get_or, drop, length-take, get_or-take, get_or-drop, lt-ltb, le-ltb}
use Rattle.rules.specs.Lists.{range, concat_map}
use Rattle.rules.specs.Limits.{most_inputs}
use Rattle.rules.specs.Text.{text, decimal}
use Rattle.rules.specs.Sheets.Printed.{line, first_lines, printed_gate, printed_net}
use Rattle.rules.specs.Sheets.Sheets.{reference_text}
use Rattle.nets.specs.declared.forms.Header.{Header}
use Rattle.nets.specs.declared.forms.Net.{Net}
use Rattle.nets.specs.Room.{most_digits}
use Rattle.nets.specs.Forms.{name_in, header_of, gate_of, gates_of, names_in, net_in, names_count}
use Rattle.laws.specs.Lists.Ranges.{range_next, range_none, map_range_at}

-- the text of a reference
abbrev pub reference_in : List ℕ → Header → ℕ → List ℕ
reference_in s h r = reference_text (names_in s h) r

-- the line of a gate with these parts, that of the gate with k gates before it, and all gate lines
abbrev pub printed_parts : List ℕ → Header → ℕ → ℕ → List ℕ → List ℕ
printed_parts s h left right digits = printed_gate (names_in s h) (record { left = left; right = right; digits = digits })

abbrev pub printed_gate_at : List ℕ → Header → Net → ℕ → List ℕ
printed_gate_at s h net k = printed_gate (names_in s h) (gate_of net k)

abbrev pub printed_gates : List ℕ → Header → Net → List ℕ
printed_gates s h net = concat_map (printed_gate (names_in s h)) (gates_of net)

-- no more gates than the form has room for, and each digit is one digit
pub record GatesInside (net : Net) : Type 0 where
  pub count : net.gates < most_inputs
  pub room : net.gates * (net.levels * net.levels) ≤ most_digits
  pub digits : (k : ℕ) → k < net.gates * (net.levels * net.levels) → get_or net.digits k 0 < 10

-- the gate lines from the gate with k gates before it on
unfoldable pub lines_from : List ℕ → Header → Net → ℕ → List ℕ
lines_from s h net k = concat_map (printed_gate (names_in s h)) (map (gate_of net) (range k (net.gates - k)))

module _ (s : List ℕ) (h : Header) (net : Net) where
  pub lines_all : lines_from s h net 0 ≡ printed_gates s h net
  unfolding lines_from gates_of
  lines_all = rw sub-zero

  pub lines_next : (k : ℕ) → k < net.gates → lines_from s h net k ≡ printed_gate_at s h net k ++ lines_from s h net (k + 1)
  unfolding lines_from concat_map
  lines_next k l = ap (λ (r : List ℕ). concat_map (printed_gate (names_in s h)) (map (gate_of net) r)) (range_next k net.gates l)

  pub lines_none : (k : ℕ) → net.gates ≤ k → lines_from s h net k ≡ []
  unfolding lines_from concat_map
  lines_none k l = rw (range_none k net.gates l)

module _ (net : Net) (inside : GatesInside net) (k : ℕ) (h : k < net.gates) where
  -- where the gate's digits end
  pub table_end : k * (net.levels * net.levels) + net.levels * net.levels ≤ net.gates * (net.levels * net.levels)
  table_end = omega (arith, mul-le-mul_right (net.levels * net.levels) h)

  pub table_digit : (i : ℕ) → i < length (gate_of net k).digits → get_or (gate_of net k).digits i 0 < 10
  unfolding gate_of
  table_digit i l =
      let size : ℕ = net.levels * net.levels in
      let below : i < size = omega (arith, length-take size (drop (k * size) net.digits)) in
      rw (get_or-take size (drop (k * size) net.digits) i 0 below, get_or-drop) (inside.digits (k * size + i) (omega (arith, table_end)))

-- the sheet of a net in the parts in which it is written
pub net_parts : (s : List ℕ) (h : Header) (net : Net) → printed_net (net_in s h net)
    ≡ (line (text "levels" ∷ text "inputs" ∷ []) ++ line (decimal h.levels ∷ decimal h.inputs ∷ []))
    ++ (line (header_of s h).names
    ++ (line (text "left" ∷ text "right" ∷ text "table" ∷ []) ++ concat_map (printed_gate (header_of s h).names) (gates_of net)))
unfolding printed_net first_lines header_of
net_parts s h net = simp append_assoc

module _ (s : List ℕ) (h : Header) where
  -- a reference is printed as a name, or as a gate's number
  pub reference_name : (r : ℕ) → r < h.inputs → reference_in s h r ≡ name_in s h r
  unfolding reference_text header_of
  reference_name r l =
      rw (names_count s h, lt-ltb r h.inputs l, reference_text)
      (map_range_at (name_in s h) 0 h.inputs r [] l ∙ ap (name_in s h) (zero-add r))

  pub reference_gate : (r : ℕ) → h.inputs ≤ r → reference_in s h r ≡ decimal (r - h.inputs + 1)
  unfolding reference_text
  reference_gate r l =
      let e : r + 1 - h.inputs ≡ r - h.inputs + 1 = omega arith in
      rw (names_count s h, le-ltb r h.inputs l, reference_text, names_count s h) (ap decimal e)
