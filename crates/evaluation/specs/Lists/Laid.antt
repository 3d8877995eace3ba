-- The lists of a net's wires, one after the other: what is required, what is promised, and the step to the next input and the next gate.
-- Assumes nothing.
use Rattle.std.specs.Prelude.{◌<◌, ◌≤◌, ◌+◌, ◌-◌, ◌^◌, ◌*◌, ◌/◌, ◌≡◌}
use Rattle.laws.specs.Prelude.{ℕ, suc, ◌∙◌, sym, ap, subst, List, pow-suc, pow-le-pow_right, mul-div_cancel}
use Rattle.laws.specs.Prelude.{mul-le-mul_right, suc-mul, mul_comm, mul-one, one-le-pow, mul_assoc, mul-le-mul_left, mul-add, ℕ_discrete, arith, length, get_or}
use Rattle.laws.specs.Prelude.{set, length-set, get_or-set_same, get_or-set_other}
use Rattle.rules.specs.Limits.{most_cells}
use Rattle.rules.specs.Nets.Trees.{Tree, tree_value}
use Rattle.radix.specs.Weights.{weight_fits}
use Rattle.nets.specs.declared.forms.Net.{Net}
use Rattle.nets.specs.References.{GateStep, gate_step}
use Rattle.nets.specs.Room.{most_wires}
use Rattle.nets.specs.Sound.{Sound, sound_size, net_levels_pos, wires_room}
use Rattle.evaluation.specs.declared.lists.order.Span.{Span}
use Rattle.evaluation.specs.declared.lists.order.Order.{Order}
use Rattle.evaluation.specs.Lists.Runs.{Run}
use Rattle.evaluation.specs.Lists.Pairs.{JoinReady, PairsJoined, entries_end}
use Rattle.evaluation.specs.Lists.Entries.{WireList, Ordered, joined_span, Side, Sides, list_same, sides_ordered, input_listed, pairs_join, pairs_listed}
use Rattle.evaluation.specs.Lists.Wires.{list_room, wire_group, wire_value, wire_count, wire_start, span_of, input_tree, input_group, input_count, wire_below}
use Rattle.evaluation.specs.Lists.Wires.{wire_over, wire_low, gate_apart, wire_group_join, wire_digit_there, wire_value_join, wire_count_join}
use Rattle.evaluation.specs.Lists.Wires.{start_more, starts_rise, starts_fit}

-- the entry for level l of an input
abbrev pub input_entry : ℕ → ℕ → ℕ
input_entry weight l = l * (weight * 16 + 1)

pub record InputReady (m weight at : ℕ) (lists : List ℕ) : Type 0 where
  pub light : weight ≤ most_cells
  pub fits : (l : ℕ) → l < m → input_entry weight l < entries_end
  pub room : at + m ≤ length lists

-- the entries of wire j, from `start` on
abbrev pub ListOf : Net → ℕ → List ℕ → ℕ → Type 0
ListOf net j lists start = WireList net.levels net.inputs (wire_group net j) (wire_value net j) (wire_count net j) (λ p. get_or lists (start + p) 0)

-- the first j wires have their lists
pub record WiresListed (net : Net) (j : ℕ) (spans : List Span) (lists : List ℕ) : Type 0 where
  pub spans_long : length spans ≡ most_wires
  pub spans_are : (d : Span) (i : ℕ) → i < j → get_or spans i d ≡ span_of net i
  pub long : length lists ≡ list_room
  pub listed : (i : ℕ) → i < j → ListOf net i lists (wire_start net i)

-- gate k has its two lists, before `end`
abbrev pub GateSides : Net → ℕ → List ℕ → ℕ → Order → Type 0
GateSides net k lists end =
    Sides net.levels net.inputs (wire_group net (net.inputs + k)) (wire_value net (net.inputs + k)) net.digits (k * (net.levels * net.levels)) lists
    end (wire_count net (net.inputs + k))

-- .. the net's last gate
abbrev pub NetListed : Net → List ℕ → Order → Type 0
NetListed net lists o = GateSides net (net.gates - 1) lists (length lists) o

pub wires_listed_none : (net : Net) (spans : List Span) (lists : List ℕ) → length spans ≡ most_wires → length lists ≡ list_room → WiresListed net 0 spans lists
wires_listed_none net spans lists spans_long long =
    record { spans_long = spans_long; spans_are = λ d i h. absurd (omega arith); long = long; listed = λ i h. absurd (omega arith) }

module _ (net : Net) (sound : Sound net) where
  abbrev m : ℕ
  m = net.levels

  abbrev n : ℕ
  n = net.inputs

  pos : 0 < m
  pos = net_levels_pos net sound

  module _ (j : ℕ) (spans : List Span) (lists : List ℕ) (done : WiresListed net j spans lists) (early : j ≤ n + net.gates) where
    -- a wire that has its list
    wire_side : (d : Span) (i end : ℕ) → i < j → wire_start net i + wire_count net i ≤ end → Side m n (wire_value net i) lists end (get_or spans i d)
    wire_side d i end h there =
        let i< : i < n + net.gates = omega arith in
        rw (done.spans_are d i h) (record {
          below = wire_below net sound i i<;
          over = wire_over net sound i i<;
          low = λ x. omega (arith, wire_low net sound i i< x, (sound_size net sound).levels_most);
          there = there;
          list = done.listed i h;
        })

    -- one more wire
    module _ (turn : j < n + net.gates) (to : ℕ) (is_to : to ≡ wire_start net j) (after : List ℕ) (same : length after ≡ length lists)
        (front : (q : ℕ) → q < to → get_or after q 0 ≡ get_or lists q 0) (new : ListOf net j after to) (s : Span) (is_s : s ≡ span_of net j) where
      wires_more : WiresListed net (j + 1) (set spans j s) after
      wires_more =
          record {
            spans_long = length-set spans j s ∙ done.spans_long;
            spans_are = λ d i h. span_more d i h (ℕ_discrete i j);
            long = same ∙ done.long;
            listed = λ i h. listed_more i h (ℕ_discrete i j);
          }
        where
          span_more : (d : Span) (i : ℕ) → i < j + 1 → Dec (i ≡ j) → get_or (set spans j s) i d ≡ span_of net i
          span_more d i h (yes e) = rw e (get_or-set_same spans j s d (omega (arith, done.spans_long, wires_room net sound)) ∙ is_s)
          span_more d i h (no other) = get_or-set_other spans j i s d other ∙ done.spans_are d i (omega arith)

          listed_more : (i : ℕ) → i < j + 1 → Dec (i ≡ j) → ListOf net i after (wire_start net i)
          listed_more i h (yes e) = subst (λ (k : ℕ). ListOf net k after (wire_start net k)) (sym e) (rw is_to at new)
          listed_more i h (no other) =
              let low : i < j = omega arith in
              list_same m n _ _ _ _ _ (λ p l. front (wire_start net i + p) (omega (arith, is_to, starts_rise net sound i j low))) (done.listed i low)

  -- ---- one more input

  pub weight_next : (i w : ℕ) → i < n → w ≡ m ^ (n - i) → w / m ≡ m ^ (n - 1 - i)
  weight_next i w turn is_w = let e : n - i ≡ suc (n - 1 - i) = omega arith in rw (is_w, e, pow-suc) (mul-div_cancel _ pos)

  module _ (i : ℕ) (spans : List Span) (lists : List ℕ) (done : WiresListed net i spans lists) (turn : i < n) (at w : ℕ) (is_at : at ≡ wire_start net i)
      (is_w : w ≡ m ^ (n - 1 - i)) where
    pub input_ready : InputReady m w at lists
    input_ready =
        let size = sound_size net sound in
        let all : w * m ≤ most_cells = rw is_w (omega (arith, weight_fits m n i pos turn, size.cells_most)) in
        let some : 0 < w = rw is_w (one-le-pow (n - 1 - i) m pos) in
        record {
          light = omega (arith, rw mul-one at (mul-le-mul_left w pos));
          fits = λ l h.
              let less : l * w + w ≤ w * m = omega (arith, suc-mul l w, mul-le-mul_right w h, mul_comm m w) in
              rw (mul-add, mul-one, ← (mul_assoc l w 16)) (omega (arith, size.levels_most));
          room = omega (arith, is_at, input_count net sound i turn, start_more net sound i, starts_fit net sound (i + 1) (omega arith), done.long);
        }

    pub input_lists_more : (bit : ℕ) → bit ≡ 2 ^ i → (after : List ℕ) → Run at m (input_entry w) lists after
        → WiresListed net (i + 1) (set spans i (record { start = at; count = m; group = bit })) after
    unfolding tree_value
    input_lists_more bit is_bit after run =
        wires_more i spans lists done (omega arith) (omega arith) at is_at after run.same run.front
        (rw (input_count net sound i turn, input_group net sound i turn)
        (subst (λ (t : Tree). WireList m n (2 ^ i) (tree_value m n t) m (λ p. get_or after (at + p) 0)) (sym (input_tree net sound i turn))
        (list_same m n (2 ^ i) _ m _ _ (λ p l. run.there p l ∙ ap (λ (x : ℕ). input_entry x p) is_w) (input_listed m n pos i turn))))
        _ (rw (is_at, is_bit, input_count net sound i turn, input_group net sound i turn))

  -- ---- one more gate

  module _ (k : ℕ) (spans : List Span) (lists : List ℕ) (done : WiresListed net (n + k) spans lists) (turn : k < net.gates) (to : ℕ)
      (is_to : to ≡ wire_start net (n + k)) (d : Span) where
    abbrev l : Span
    l = get_or spans (get_or net.left k 0) d

    abbrev r : Span
    r = get_or spans (get_or net.right k 0) d

    back : GateStep net k
    back = gate_step net sound k turn

    l_is : l ≡ span_of net (get_or net.left k 0)
    l_is = done.spans_are d _ back.0

    r_is : r ≡ span_of net (get_or net.right k 0)
    r_is = done.spans_are d _ back.1

    count_is : l.count * r.count ≡ wire_count net (n + k)
    count_is = rw (l_is, r_is) (sym (wire_count_join net sound k turn))

    group_is : l.group + r.group ≡ wire_group net (n + k)
    group_is = rw (l_is, r_is) (sym (wire_group_join net sound k turn))

    pub gate_fits : k + 1 < net.gates → (to + l.count * r.count ≤ list_room) × (l.group + r.group < 4096)
    gate_fits more =
        let most : 2 ^ n ≤ 2 ^ 12 = pow-le-pow_right (omega arith) (sound_size net sound).inputs_most in
        let early : n + k < n + net.gates = omega arith in
        rw (count_is, group_is) (
          omega (arith, is_to, start_more net sound (n + k), starts_fit net sound (n + k + 1) (omega arith)),
          omega (arith, wire_below net sound (n + k) early),
        )

    module _ (o : Order) (ordered : Ordered m l r o) where
      gate_sides : (end : ℕ) → to ≤ end → GateSides net k lists end o
      gate_sides end before =
          sides_ordered (record {
            u = wire_value net (get_or net.left k 0);
            v = wire_value net (get_or net.right k 0);
            outer = wire_side (n + k) spans lists done (omega arith) d _ end back.0 (omega (arith, is_to, starts_rise net sound _ (n + k) back.0));
            inner = wire_side (n + k) spans lists done (omega arith) d _ end back.1 (omega (arith, is_to, starts_rise net sound _ (n + k) back.1));
            group = group_is;
            apart = rw (l_is, r_is) (gate_apart net sound k turn);
            w_low = λ x. omega (arith, wire_low net sound (n + k) (omega arith) x, (sound_size net sound).levels_most);
            few = (sound_size net sound).levels_most;
            near = omega arith;
            there = wire_digit_there net sound k turn;
            is_w = wire_value_join net sound k turn;
            product = count_is;
          }) o ordered

      pub net_listed : net.gates ≤ k + 1 → NetListed net lists o
      net_listed last =
          let e : k ≡ net.gates - 1 = omega arith in
          subst (λ (i : ℕ). GateSides net i lists (length lists) o) e (gate_sides (length lists) (omega (
            arith,
            is_to,
            starts_fit net sound (n + k) (omega arith),
            done.long,
          )))

      pub join_ready : k + 1 < net.gates → JoinReady o net.digits (k * (m * m)) to lists
      join_ready more =
          pairs_join m n pos (gate_sides to (omega arith)) (sound_size net sound).cells_most (omega (arith, gate_fits more, count_is, done.long))

      pub gate_lists_more : (gate : Span) → gate ≡ joined_span l r to → (after : List ℕ)
          → PairsJoined o net.digits (k * (m * m)) to lists o.outer.count after
          → (to + gate.count ≡ wire_start net (n + (k + 1))) × WiresListed net (n + (k + 1)) (set spans (n + k) gate) after
      gate_lists_more gate is_gate after joined =
          let next : n + k + 1 ≡ n + (k + 1) = omega arith in
          let is : gate ≡ span_of net (n + k) = is_gate ∙ rw (is_to, count_is, group_is) in
          rw (sym next) (
            omega (arith, is_to, ap (λ (s : Span). s.count) is, start_more net sound (n + k)),
            wires_more (n + k) spans lists done (omega arith) (omega arith) to is_to after joined.same joined.front
                (pairs_listed m n pos (gate_sides to (omega arith)) after joined) gate is,
          )
