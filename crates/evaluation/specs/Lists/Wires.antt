-- A net's wires: the group, the value, and the place and number of entries of each.
-- Assumes nothing.
use Rattle.std.specs.Prelude.{◌<◌, ◌≤◌, ◌+◌, ◌-◌, ◌^◌, ◌*◌, ◌≡◌, ◌∷◌}
use Rattle.laws.specs.Prelude.{ℕ, suc, zero, ◌∙◌, sym, ap, ap₂, List, [], map, zero-add, add-zero, pow-suc, pow-zero}
use Rattle.laws.specs.Prelude.{pow-le-pow_right, mul-le-mul, mul-one, add_assoc, add-mul, zero-mul, suc-mul, one-mul, mul-le-mul_left, add-one, arith, length}
use Rattle.laws.specs.Prelude.{get_or, drop, get_or-take, get_or-drop, digits_lt, pow-add}
use Rattle.rules.specs.Lists.{range, total}
use Rattle.rules.specs.Limits.{most_levels, most_inputs, most_cells}
use Rattle.rules.specs.Sheets.Sheets.{used_by}
use Rattle.rules.specs.Groups.Groups.{size}
use Rattle.rules.specs.Nets.Wirings.{group_of}
use Rattle.rules.specs.Nets.Trees.{Tree, leaf, node, wiring_in, tree_value, EachOnce, Apart}
use Rattle.laws.specs.Lists.Concat.{map-append}
use Rattle.laws.specs.Lists.Ranges.{range_length, range_append, range_suc, map_range_suc, map_range_length}
use Rattle.laws.specs.Lists.Totals.{total_parts}
use Rattle.laws.specs.Lists.WithEach.{with_each_append, with_each_length, with_each_earlier, with_each_last}
use Rattle.trees.specs.Groups.Joins.{Over}
use Rattle.trees.specs.Groups.Members.{size_join, size_le, size_pos, size_single}
use Rattle.trees.specs.Trees.Forest.{tree_at, joined_tree, with_trees, input_trees, inputs_length}
use Rattle.trees.specs.Trees.Homes.{Grown, group_at_of, grown_inputs, grown_gates}
use Rattle.trees.specs.Trees.UsedOnce.{used_sum}
use Rattle.trees.specs.Trees.Wirings.{group_below, group_some, tree_below, tree_part}
use Rattle.nets.specs.declared.forms.Net.{Net}
use Rattle.nets.specs.Forms.{gate_of, gates_of}
use Rattle.nets.specs.References.{GateStep, gate_step}
use Rattle.nets.specs.Tables.{digits_within}
use Rattle.nets.specs.Sound.{Sound, sound_size, net_levels_pos, gates_length, gates_pos}
use Rattle.evaluation.specs.declared.lists.order.Span.{Span}

-- room for the lists of every net, but for the last gate's
abbrev pub list_room : ℕ
list_room = most_cells + most_inputs * most_levels

-- the trees of all wires
abbrev pub forest_of : Net → List Tree
forest_of net = with_trees (input_trees net.inputs) (gates_of net)

abbrev pub wire_group : Net → ℕ → ℕ
wire_group net j = group_at_of (forest_of net) j

abbrev pub wire_value : Net → ℕ → ℕ → ℕ
wire_value net j x = tree_value net.levels net.inputs (tree_at (forest_of net) j) x

-- the number of a wire's entries
abbrev pub wire_count : Net → ℕ → ℕ
wire_count net j = net.levels ^ size net.inputs (wire_group net j)

-- that of some wires together
abbrev entries_of : Net → List ℕ → ℕ
entries_of net js = total (map (wire_count net) js)

-- where its list begins: one list follows the other
abbrev pub wire_start : Net → ℕ → ℕ
wire_start net j = entries_of net (range 0 j)

abbrev pub span_of : Net → ℕ → Span
span_of net j = record { start = wire_start net j; count = wire_count net j; group = wire_group net j }

-- two numbers from 2 on
sum_product : (x y : ℕ) → 2 ≤ x → 2 ≤ y → 2 * x + 2 * y ≤ x * y + 4
sum_product x y h k =
    let e : 2 + (x - 2) ≡ x = omega arith in
    omega (arith, sym (add-mul 2 (x - 2) y) ∙ ap (λ (z : ℕ). z * y) e, mul-le-mul_left (x - 2) k)

-- twice a wire's entries, without 4
spare : Net → ℕ → ℕ
spare net j = 2 * wire_count net j - 4

total_spare : (net : Net) (js : List ℕ) → 2 * entries_of net js ≤ total (map (spare net) js) + 4 * length js
unfolding total spare
total_spare net [] = omega arith
total_spare net (j ∷ js) = omega (arith, total_spare net js)

module _ (net : Net) (sound : Sound net) where
  abbrev m : ℕ
  m = net.levels

  abbrev n : ℕ
  n = net.inputs

  -- the trees of the inputs and the first k gates
  abbrev earlier : ℕ → List Tree
  earlier k = with_trees (input_trees n) (map (gate_of net) (range 0 k))

  earlier_length : (k : ℕ) → length (earlier k) ≡ n + k
  earlier_length k = with_each_length joined_tree (input_trees n) (map (gate_of net) (range 0 k)) ∙ rw (inputs_length, map_range_length)

  -- .. are those of the whole net
  earlier_at : (k r : ℕ) → k ≤ net.gates → r < n + k → tree_at (forest_of net) r ≡ tree_at (earlier k) r
  unfolding gates_of
  earlier_at k r low h =
      let all : net.gates ≡ k + (net.gates - k) = omega arith in
      ap (λ (c : ℕ). tree_at (with_trees (input_trees n) (map (gate_of net) (range 0 c))) r) all
      ∙ rw (range_append, map-append, with_each_append) (with_each_earlier joined_tree (leaf 0) (earlier k) _ r (omega (arith, earlier_length k)))

  grown : Grown m n (used_by (gates_of net)) (forest_of net)
  grown =
      let rules = sound.gates.rules in
      grown_gates m n (gates_of net) [] (input_trees n) (grown_inputs m n) (rw inputs_length rules.back) rules.once rules.tables

  forest_long : length (forest_of net) ≡ n + net.gates
  forest_long = with_each_length joined_tree (input_trees n) (gates_of net) ∙ rw (inputs_length, gates_length)

  pub input_tree : (i : ℕ) → i < n → tree_at (forest_of net) i ≡ leaf i
  input_tree = grown.inputs

  pub input_group : (i : ℕ) → i < n → wire_group net i ≡ 2 ^ i
  unfolding group_of
  input_group i h = rw (input_tree i h)

  pub input_count : (i : ℕ) → i < n → wire_count net i ≡ m
  input_count i h = rw (input_group i h, size_single i n h, pow-suc, pow-zero, one-mul)

  module _ (j : ℕ) (j< : j < n + net.gates) where
    wire_once : EachOnce n (wiring_in (tree_at (forest_of net) j))
    wire_once = grown.once j (omega (arith, forest_long))

    pub wire_below : wire_group net j < 2 ^ n
    wire_below = group_below n _ wire_once

    pub wire_over : Over m n (wire_group net j) (wire_value net j)
    wire_over = tree_part m n (net_levels_pos net sound) (λ _. 0) _ wire_once

    pub wire_low : (x : ℕ) → wire_value net j x < m
    wire_low x = tree_below m n (net_levels_pos net sound) (λ _. 0) _ (grown.filled j (omega (arith, forest_long))) x

    pub wire_two : 2 ≤ wire_count net j
    wire_two =
        let one : m ^ 1 ≡ m = rw (pow-suc, pow-zero, one-mul) in
        let more : m ^ 1 ≤ wire_count net j = pow-le-pow_right (net_levels_pos net sound) (size_pos n (wire_group net j) wire_below (group_some _)) in
        omega (arith, (sound_size net sound).levels_least)

    pub wire_most : wire_count net j ≤ m ^ n
    wire_most = pow-le-pow_right (net_levels_pos net sound) (size_le n (wire_group net j))

  -- ---- gate k

  module _ (k : ℕ) (turn : k < net.gates) where
    abbrev l : ℕ
    l = get_or net.left k 0

    abbrev r : ℕ
    r = get_or net.right k 0

    gate_tree : tree_at (forest_of net) (n + k) ≡ node (gate_of net k).digits (tree_at (forest_of net) l) (tree_at (forest_of net) r)
    unfolding gate_of
    gate_tree =
        let step : GateStep net k = gate_step net sound k turn in
        earlier_at (k + 1) (n + k) (omega arith) (omega arith)
        ∙ rw (add-one, map_range_suc) (with_each_last joined_tree (leaf 0) (input_trees n) (map (gate_of net) (range 0 k)) (gate_of net k) (n + k)
        (rw (inputs_length, map_range_length)))
        ∙ ap₂ (λ (a b : Tree). node (gate_of net k).digits a b) (sym (earlier_at k l (omega arith) step.0)) (sym (earlier_at k r (omega arith) step.1))

    pub gate_apart : Apart n (wire_group net l) (wire_group net r)
    gate_apart = (rw gate_tree at (wire_once (n + k) (omega arith))).0

    pub wire_group_join : wire_group net (n + k) ≡ wire_group net l + wire_group net r
    unfolding group_of
    wire_group_join = rw gate_tree

    -- left's and right's values point to the gate's digit
    pub wire_digit_there : (x : ℕ) → k * (m * m) + wire_value net l x * m + wire_value net r x * 1 < length net.digits
    wire_digit_there x =
        let step : GateStep net k = gate_step net sound k turn in
        rw mul-one (omega (arith, digits_within net sound k turn, digits_lt (wire_low l (omega arith) x) (wire_low r (omega arith) x)))

    pub wire_value_join : (x : ℕ) → get_or net.digits (k * (m * m) + wire_value net l x * m + wire_value net r x * 1) 0 ≡ wire_value net (n + k) x
    unfolding tree_value gate_of
    wire_value_join x =
        let step : GateStep net k = gate_step net sound k turn in
        let u = wire_value net l x in
        let v = wire_value net r x in
        let low : u * m + v < m * m = digits_lt (wire_low l (omega arith) x) (wire_low r (omega arith) x) in
        rw (
          mul-one,
          add_assoc,
          ← (get_or-drop (k * (m * m)) net.digits (u * m + v) 0),
          ←
              (get_or-take (m * m) (drop (k * (m * m)) net.digits) (u * m + v) 0 low),
        )
        (sym (ap (λ (t : Tree). tree_value m n t x) gate_tree))

    pub wire_count_join : wire_count net (n + k) ≡ wire_count net l * wire_count net r
    wire_count_join =
        let step : GateStep net k = gate_step net sound k turn in
        ap (λ (g : ℕ). m ^ size n g) wire_group_join
        ∙ ap (λ (c : ℕ). m ^ c) (size_join n (wire_group net l) (wire_group net r) (wire_below l (omega arith)) (wire_below r (omega arith)) gate_apart)
        ∙ pow-add m (size n (wire_group net l)) (size n (wire_group net r))

  -- ---- where the lists begin

  pub start_more : (j : ℕ) → wire_start net (j + 1) ≡ wire_start net j + wire_count net j
  unfolding total
  start_more j = rw (add-one, range_suc) (total_parts (wire_count net) (range 0 j) ((0 + j) ∷ []) ∙ rw zero-add (omega arith))

  starts_parts : (j k : ℕ) → wire_start net (j + k) ≡ wire_start net j + entries_of net (range j k)
  starts_parts j k = rw range_append (total_parts (wire_count net) (range 0 j) (range (0 + j) k) ∙ rw zero-add)

  -- a list ends before a later one
  pub starts_rise : (i j : ℕ) → i < j → wire_start net i + wire_count net i ≤ wire_start net j
  starts_rise i j h =
      let e : i + 1 + (j - (i + 1)) ≡ j = omega arith in
      omega (arith, start_more i, ap (wire_start net) (sym e) ∙ starts_parts (i + 1) (j - (i + 1)))

  pub input_start : (i : ℕ) → i ≤ n → wire_start net i ≡ i * m
  unfolding total range
  input_start zero h = sym (zero-mul m)
  input_start (suc i) h =
      ap (wire_start net) (sym (add-one i)) ∙ start_more i ∙ rw suc-mul (omega (arith, input_start i (omega arith), input_count i (omega arith)))

  used_most : (from count : ℕ) → from + count ≤ net.gates
      → total (map (spare net) (used_by (map (gate_of net) (range from count)))) + 4 * count ≤ entries_of net (range (n + from) count)
  unfolding total range used_by gate_of spare
  used_most from zero h = omega arith
  used_most from (suc count) h =
      let turn : from < net.gates = omega arith in
      let step : GateStep net from = gate_step net sound from turn in
      let e : n + suc from ≡ suc (n + from) = omega arith in
      let l_two = wire_two (get_or net.left from 0) (omega arith) in
      let r_two = wire_two (get_or net.right from 0) (omega arith) in
      omega (arith, rw e at (used_most (suc from) count (omega arith)), wire_count_join from turn, sum_product _ _ l_two r_two, l_two, r_two)

  -- the last gate has more entries than all other gates together
  entries_fit : entries_of net (range n (net.gates - 1)) + 4 ≤ wire_count net (n + (net.gates - 1))
  unfolding gates_of total
  entries_fit =
      let e : suc (net.gates - 1) ≡ net.gates = omega (arith, gates_pos net sound) in
      let js = range n (net.gates - 1) in
      let all : entries_of net (range n net.gates) ≡ entries_of net js + wire_count net (n + (net.gates - 1)) =
      ap (λ (c : ℕ). entries_of net (range n c)) (sym e) ∙ rw range_suc (total_parts (wire_count net) js ((n + (net.gates - 1)) ∷ []) ∙ omega arith) in
      let used = ap (λ (c : ℕ). total (map (spare net) (range n (c - 1)))) (gates_length net) in
      omega (
        arith,
        used_sum (spare net) m n (gates_of net) sound.gates,
        used,
        rw add-zero at (used_most 0 net.gates (omega arith)),
        total_spare net js,
        range_length n (net.gates - 1),
      )

  -- all lists before the last gate's fit
  pub starts_fit : (j : ℕ) → j ≤ n + (net.gates - 1) → wire_start net j ≤ list_room
  starts_fit j h =
      let k = net.gates - 1 in
      let e : j + (n + k - j) ≡ n + k = omega arith in
      let size = sound_size net sound in
      let inputs : n * m ≤ most_inputs * most_levels = mul-le-mul size.inputs_most size.levels_most in
      let last : n + k < n + net.gates = omega (arith, gates_pos net sound) in
      omega (
        arith,
        ap (wire_start net) (sym e) ∙ starts_parts j (n + k - j),
        starts_parts n k,
        input_start n (omega arith),
        entries_fit,
        wire_most (n + k) last,
        size.cells_most,
        inputs,
      )
