-- A net at many assignments: what is required, what is promised, and the step to the next gate.
-- Assumes nothing.
use Rattle.std.specs.Prelude.{◌<◌, ◌≤◌, ◌+◌, ◌-◌, ◌*◌, ◌≡◌, ◌∷◌, ◌++◌}
use Rattle.laws.specs.Prelude.{ℕ, suc, ◌∙◌, sym, ap, refl, ap₂, List, [], map, zero-add, add-zero, zero-mul}
use Rattle.laws.specs.Prelude.{mul-le-mul_right, suc-mul, mul-le-mul, add_assoc, add-one, ℕ_discrete, arith, length, get_or, drop, set, length-set}
use Rattle.laws.specs.Prelude.{get_or-set_same, get_or-set_other, get_or-take, get_or-drop, digits_lt}
use Rattle.rules.specs.Lists.{range, with_each}
use Rattle.rules.specs.Nets.Value.{gate_value, with_gates, value_with}
use Rattle.laws.specs.Lists.Ranges.{map_range_at, map_range_suc, map_range_same}
use Rattle.laws.specs.Lists.WithEach.{with_each_snoc}
use Rattle.nets.specs.declared.forms.Net.{Net}
use Rattle.nets.specs.Forms.{gate_of, gates_of}
use Rattle.nets.specs.References.{GateStep, gate_step}
use Rattle.nets.specs.Room.{most_gates, most_wires}
use Rattle.nets.specs.Sound.{Sound, sound_size, gates_count, gates_length, wires_room}
use Rattle.nets.specs.Tables.{net_gate_table, digits_within}
use Rattle.evaluation.specs.Gates.{GateReady, GateDone}

-- the levels of the first `count` wires at assignment p: those of wire j begin at its start
abbrev pub levels_in : List ℕ → List ℕ → ℕ → ℕ → List ℕ
levels_in wires starts count p = map (λ j. get_or wires (get_or starts j 0 + p) 0) (range 0 count)

-- the inputs' levels come before `base`, and there is room for the gates' values after it
pub record ValuesReady (net : Net) (starts : List ℕ) (base count : ℕ) (wires : List ℕ) : Type 0 where
  pub sound : Sound net
  pub inputs_there : (i : ℕ) → i < net.inputs → get_or starts i 0 + count ≤ base
  pub room : base + net.gates * count ≤ length wires
  pub levels : (i p : ℕ) → i < net.inputs → p < count → get_or wires (get_or starts i 0 + p) 0 < net.levels

-- the most columns that the values take, one for each gate
abbrev pub most_columns : ℕ
most_columns = most_gates

-- this many columns have room for the values of every net
pub columns_room : (net : Net) → Sound net → (base count most : ℕ) (wires : List ℕ) → count ≤ most → base + most_columns * most ≤ length wires
    → base + net.gates * count ≤ length wires
columns_room net sound base count most wires small room =
    let few : net.gates ≤ most_columns = omega (arith, gates_count net sound, (sound_size net sound).inputs_most) in
    let all : net.gates * count ≤ most_columns * most = mul-le-mul few small in
    omega (arith, all, room)

-- everything before `base` is unchanged, and the net's values at the assignments start at `last`
pub record ValuesDone (net : Net) (starts : List ℕ) (base count : ℕ) (before after : List ℕ) (last : ℕ) : Type 0 where
  pub same : length after ≡ length before
  pub kept : (q : ℕ) → q < base → get_or after q 0 ≡ get_or before q 0
  pub there : last + count ≤ length after
  pub values : (p : ℕ) → p < count → get_or after (last + p) 0 ≡ value_with net.levels net.inputs (gates_of net) (levels_in before starts net.inputs p)

-- the first k gates have their values, which end at `to`
pub record GatesDone (net : Net) (starts₀ : List ℕ) (base count : ℕ) (before : List ℕ) (k : ℕ) (starts : List ℕ) (to : ℕ) (wires : List ℕ) : Type 0 where
  pub low : k ≤ net.gates
  pub same : length wires ≡ length before
  pub kept : (q : ℕ) → q < base → get_or wires q 0 ≡ get_or before q 0
  pub starts_room : length starts ≡ most_wires
  pub reached : to ≡ base + k * count
  pub there : (j : ℕ) → j < net.inputs + k → get_or starts j 0 + count ≤ to
  pub levels : (j p : ℕ) → j < net.inputs + k → p < count → get_or wires (get_or starts j 0 + p) 0 < net.levels
  pub values : (p : ℕ) → p < count
      → levels_in wires starts (net.inputs + k) p ≡ with_gates net.levels (levels_in before starts₀ net.inputs p) (map (gate_of net) (range 0 k))

module _ (net : Net) (starts₀ : List ℕ) (base count : ℕ) (before : List ℕ) (ready : ValuesReady net starts₀ base count before) where
  pub gates_none : length starts₀ ≡ most_wires → GatesDone net starts₀ base count before 0 starts₀ base before
  unfolding range with_each
  gates_none room =
      record {
        low = omega arith;
        same = refl;
        kept = λ q h. refl;
        starts_room = room;
        reached = rw (zero-mul, add-zero);
        there = λ j h. ready.inputs_there j (omega arith);
        levels = λ j p h l. ready.levels j p (omega arith) l;
        values = λ p h. rw add-zero;
      }

  module _ (k : ℕ) (starts : List ℕ) (to : ℕ) (wires : List ℕ) (done : GatesDone net starts₀ base count before k starts to wires) (turn : k < net.gates)
    where
      abbrev m : ℕ
      m = net.levels

      abbrev a : ℕ
      a = get_or starts (get_or net.left k 0) 0

      abbrev b : ℕ
      b = get_or starts (get_or net.right k 0) 0

      back : GateStep net k
      back = gate_step net ready.sound k turn

      pub gate_ready : GateReady m net.digits (k * (m * m)) a b to count wires
      gate_ready =
          let more : k * count + count ≤ net.gates * count = rw suc-mul at (mul-le-mul_right count turn) in
          record {
            digits_there = omega (arith, digits_within net ready.sound k turn);
            left_there = done.there (get_or net.left k 0) back.0;
            right_there = done.there (get_or net.right k 0) back.1;
            room = omega (arith, done.same, done.reached, ready.room, more);
            left_levels = λ p h. done.levels (get_or net.left k 0) p back.0 h;
            right_levels = λ p h. done.levels (get_or net.right k 0) p back.1 h;
          }

      module _ (after : List ℕ) (gate : GateDone m net.digits (k * (m * m)) a b to count wires after) where
        -- the values of the wires so far, and of the gate, at assignment p
        module _ (p : ℕ) (low : p < count) where
          abbrev known : List ℕ
          known = levels_in wires starts (net.inputs + k) p

          known_at : (j : ℕ) → j < net.inputs + k → get_or known j 0 ≡ get_or wires (get_or starts j 0 + p) 0
          known_at j h =
              map_range_at (λ j. get_or wires (get_or starts j 0 + p) 0) 0 (net.inputs + k) j 0 h ∙ ap (λ (i : ℕ). get_or wires (get_or starts i 0 + p) 0) (zero-add j)

          known_below : (j : ℕ) → j < net.inputs + k → get_or known j 0 < m
          known_below j h = rw (known_at j h) (done.levels j p h low)

          -- the digit there is the gate's value
          gate_value_lem : get_or after (to + p) 0 ≡ gate_value m known (gate_of net k)
          unfolding gate_value gate_of
          gate_value_lem =
              let u = get_or known (get_or net.left k 0) 0 in
              let v = get_or known (get_or net.right k 0) 0 in
              let size = m * m in
              gate.there p low
              ∙ (λ i. get_or net.digits (k * size + sym (known_at (get_or net.left k 0) back.0) i * m + sym (known_at (get_or net.right k 0) back.1) i)
              0)
              ∙ rw (
                add_assoc,
                ← (get_or-drop (k * size) net.digits (u * m + v) 0),
                ← (get_or-take size (drop (k * size) net.digits) (u * m + v) 0
                    (digits_lt (known_below (get_or net.left k 0) back.0) (known_below (get_or net.right k 0) back.1))),
              )

          gate_below : get_or after (to + p) 0 < m
          unfolding gate_value gate_of
          gate_below =
              let u = get_or known (get_or net.left k 0) 0 in
              let v = get_or known (get_or net.right k 0) 0 in
              let table = net_gate_table net ready.sound k turn in
              let inside : u * m + v < m * m = digits_lt (known_below (get_or net.left k 0) back.0) (known_below (get_or net.right k 0) back.1) in
              omega (arith, gate_value_lem, table.below (u * m + v) (rw table.count inside))

        -- one more gate has its values
        pub gates_more : GatesDone net starts₀ base count before (k + 1) (set starts (net.inputs + k) to) (to + count) after
        gates_more =
            record {
              low = omega arith;
              same = gate.same ∙ done.same;
              kept = λ q h. gate.front q (omega (arith, done.reached)) ∙ done.kept q h;
              starts_room = length-set starts (net.inputs + k) to ∙ done.starts_room;
              reached = rw (add-one, suc-mul) (omega (arith, done.reached));
              there = λ j h. start_there j h (ℕ_discrete j (net.inputs + k));
              levels = λ j p h l. level_there j p h l (ℕ_discrete j (net.inputs + k));
              values = values_more;
            }
          where
            room : net.inputs + k < length starts
            room = omega (arith, done.starts_room, wires_room net ready.sound)

            own : get_or (set starts (net.inputs + k) to) (net.inputs + k) 0 ≡ to
            own = get_or-set_same starts (net.inputs + k) to 0 room

            earlier : (j : ℕ) → j < net.inputs + k → get_or (set starts (net.inputs + k) to) j 0 ≡ get_or starts j 0
            earlier j h = get_or-set_other starts (net.inputs + k) j to 0 (λ e. omega arith)

            start_there : (j : ℕ) → j < net.inputs + (k + 1) → Dec (j ≡ net.inputs + k) → get_or (set starts (net.inputs + k) to) j 0 + count ≤ to + count
            start_there j h (yes e) = rw (e, own) (omega arith)
            start_there j h (no other) = let l : j < net.inputs + k = omega arith in rw (earlier j l) (omega (arith, done.there j l))

            level_there : (j p : ℕ) → j < net.inputs + (k + 1) → p < count → Dec (j ≡ net.inputs + k)
                → get_or after (get_or (set starts (net.inputs + k) to) j 0 + p) 0 < m
            level_there j p h l (yes e) = rw (e, own) (gate_below p l)
            level_there j p h l (no other) =
                let less : j < net.inputs + k = omega arith in
                rw (earlier j less, gate.front (get_or starts j 0 + p) (omega (arith, done.there j less))) (done.levels j p less l)

            values_more : (p : ℕ) → p < count
                → levels_in after (set starts (net.inputs + k) to) (net.inputs + (k + 1)) p
                ≡ with_gates m (levels_in before starts₀ net.inputs p) (map (gate_of net) (range 0 (k + 1)))
            values_more p h =
                let next : net.inputs + (k + 1) ≡ suc (net.inputs + k) = omega arith in
                let kept : levels_in after (set starts (net.inputs + k) to) (net.inputs + k) p ≡ known p h =
                map_range_same _ _ 0 (net.inputs + k)
                (λ j _ l. let l' : j < net.inputs + k = omega arith in
                ap (λ (s : ℕ). get_or after (s + p) 0) (earlier j l') ∙ gate.front (get_or starts j 0 + p) (omega (arith, done.there j l'))) in
                let new : get_or after (get_or (set starts (net.inputs + k) to) (net.inputs + k) 0 + p) 0 ≡ gate_value m (known p h) (gate_of net k) =
                ap (λ (s : ℕ). get_or after (s + p) 0) own ∙ gate_value_lem p h in
                rw (next, map_range_suc, add-one, map_range_suc, with_each_snoc, ← (done.values p h))
                (ap₂ (λ (vs : List ℕ) (v : ℕ). vs ++ (v ∷ [])) kept new)

  -- all gates have their values
  module _ (starts : List ℕ) (to : ℕ) (wires : List ℕ) (k : ℕ) (done : GatesDone net starts₀ base count before k starts to wires) (all : net.gates ≤ k) where
    pub gates_done : ValuesDone net starts₀ base count before wires (get_or starts (net.inputs + net.gates - 1) 0)
    unfolding value_with gates_of
    gates_done =
        let is : k ≡ net.gates = omega (arith, done.low) in
        let last : net.inputs + net.gates - 1 < net.inputs + k = omega (arith, gates_count net ready.sound) in
        let end : to ≤ length wires = rw (done.reached, is, done.same) ready.room in
        record {
          same = done.same;
          kept = done.kept;
          there = omega (arith, done.there (net.inputs + net.gates - 1) last, end);
          values = λ p h.
              sym (map_range_at (λ j. get_or wires (get_or starts j 0 + p) 0) 0 (net.inputs + k) (net.inputs + net.gates - 1) 0 last
              ∙ ap (λ (i : ℕ). get_or wires (get_or starts i 0 + p) 0) (zero-add _))
              ∙ ap (λ (vs : List ℕ). get_or vs (net.inputs + net.gates - 1) 0) (done.values p h)
              ∙ (λ i. get_or (with_gates net.levels (levels_in before starts₀ net.inputs p) (map (gate_of net) (range 0 (is i))))
              (net.inputs + sym (gates_length net) i - 1) 0);
        }
