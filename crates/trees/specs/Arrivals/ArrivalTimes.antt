-- When the output of a net settles: every used input has exactly one way to it and no other input has any, and a gate settles one delay after
-- the later of the two that it joins.
-- Assumes nothing.
use Rattle.std.specs.Prelude.{◌<◌, ◌≤◌, ◌+◌, ◌-◌, ◌*◌, ◌≡◌, ◌∷◌, ◌++◌}
use Rattle.laws.specs.Prelude.{ℕ, suc, max, ◌∙◌, sym, ap, refl, ap₂, ⊎_elim, true, false, Bool, List, [], map}
use Rattle.laws.specs.Prelude.{Memᴰ, mem_head, mem_not_nil, mem_append_cases, map-map, mem_eq_of_singleton, mem_append_right}
use Rattle.laws.specs.Prelude.{mem_append_left, mem_of_map, mem_map, le_antisymm, mul-suc, max-zero, arith, max_cases, eqb, length, get_or}
use Rattle.laws.specs.Prelude.{length-append, length-map, eq-eqb, eqb-true}
use Rattle.rules.specs.Groups.Groups.{member}
use Rattle.rules.specs.Lists.{range, any}
use Rattle.rules.specs.Nets.Arrivals.{starts_at, ways_from, gates_on_way, used_inputs, settling_time}
use Rattle.rules.specs.Nets.Trees.{Tree, leaf, wiring_in, EachOnce}
use Rattle.rules.specs.Nets.Wirings.{Wiring, input, gate, group_of}
use Rattle.rules.specs.Sheets.SheetRules.{RefersBack, IsNet}
use Rattle.rules.specs.Sheets.Sheets.{Gate, used_by}
use Rattle.rules.specs.Nets.Layers.{most}
use Rattle.laws.specs.Lists.Extremes.{most_bounds, most_listed}
use Rattle.laws.specs.Lists.Places.{map_at, mem_place}
use Rattle.laws.specs.Lists.Ranges.{by_places}
use Rattle.laws.specs.Lists.Same.{eqb_comm}
use Rattle.laws.specs.Lists.Tests.{one_where, one_if_or, not_false_true}
use Rattle.laws.specs.Nets.Times.{gate_time, with_times}
use Rattle.laws.specs.Lists.WithEach.{with_each_length, gates_step}
use Rattle.trees.specs.Groups.Members.{member_single, member_join}
use Rattle.trees.specs.Trees.Wirings.{group_below}
use Rattle.trees.specs.Trees.Forest.{joined_tree, with_trees, input_trees, inputs_length}
use Rattle.trees.specs.Trees.NetTree.{net_tree, net_wiring, net_uses}
use Rattle.trees.specs.Trees.UsedOnce.{listed_used, used_listed, used_inputs_length}
use Rattle.trees.specs.Shallow.Layers.{gates_ways}

-- the largest of a single number
most_one : (k : ℕ) → most (k ∷ []) ≡ k
unfolding most
most_one k = max-zero k

-- ---- in a wiring

-- the ways from input i to the root, each by the number of gates on it
unfoldable pub ways_in_from : ℕ → Wiring → List ℕ
ways_in_from i (input j) = elim (eqb j i) [ true ↦ 0 ∷ [] | false ↦ [] ]
ways_in_from i (gate a b) = map suc (ways_in_from i a ++ ways_in_from i b)

-- when the root settles
unfoldable pub time_in : ℕ → (ℕ → ℕ) → Wiring → ℕ
time_in delay arrival (input i) = arrival i
time_in delay arrival (gate a b) = max (time_in delay arrival a) (time_in delay arrival b) + delay

-- a member has one way, and no other input has any
pub ways_count : (n i : ℕ) → i < n → (w : Wiring) → EachOnce n w → length (ways_in_from i w) ≡ one_where (member i (group_of w))
unfolding ways_in_from group_of
ways_count n i h (input j) once = rw (member_single i j, eqb_comm i j) (go (eqb j i))
  where
    go : (t : Bool) → length {A = ℕ} (elim t as (λ _. List ℕ) [ true ↦ 0 ∷ [] | false ↦ [] ]) ≡ one_where t
    go true = refl
    go false = refl
ways_count n i h (gate a b) (apart, once_a, once_b) =
    length-map (ways_in_from i a ++ ways_in_from i b) suc
    ∙ length-append (ways_in_from i a) (ways_in_from i b)
    ∙ ap₂ ◌+◌ (ways_count n i h a once_a) (ways_count n i h b once_b)
    ∙ sym (ap one_where (member_join i n (group_of a) (group_of b) (group_below n a once_a) (group_below n b once_b) apart h)
    ∙ one_if_or (member i (group_of a)) (member i (group_of b)) (apart i h))

-- so an input with a way is a member
leaf_from : (n i k : ℕ) → i < n → (w : Wiring) → EachOnce n w → Memᴰ k (ways_in_from i w) → member i (group_of w) ≡ true
leaf_from n i k h w once is =
    not_false_true _ λ out.
    let (j, j<, at) = mem_place k (ways_in_from i w) is in
    omega (arith, ways_count n i h w once ∙ ap one_where out)

module _ (delay : ℕ) (arrival : ℕ → ℕ) where
  -- no way takes longer than the root does, ..
  pub arrival_way_within : (i k : ℕ) (w : Wiring) → Memᴰ k (ways_in_from i w) → arrival i + delay * k ≤ time_in delay arrival w
  unfolding ways_in_from time_in
  arrival_way_within i k (input j) is = go (eqb j i) refl is
    where
      go : (t : Bool) → eqb j i ≡ t → Memᴰ k (elim t as (λ _. List ℕ) [ true ↦ 0 ∷ [] | false ↦ [] ]) → arrival i + delay * k ≤ arrival j
      go true e is = rw (eqb-true j i e, mem_eq_of_singleton is) (omega arith)
      go false e is = absurd (mem_not_nil is)
  arrival_way_within i k (gate a b) is =
      let (before, listed, one_more) = mem_of_map suc (ways_in_from i a ++ ways_in_from i b) is in
      rw (← one_more, mul-suc)
      (⊎_elim (λ left. omega (arith, arrival_way_within i before a left)) (λ right. omega (arith, arrival_way_within i before b right))
      (mem_append_cases (ways_in_from i a) listed))

  -- .. and some way takes as long
  pub record Slowest (n : ℕ) (w : Wiring) : Type 0 where
    pub from : ℕ
    pub gates : ℕ
    pub below : from < n
    pub way : Memᴰ gates (ways_in_from from w)
    pub takes : time_in delay arrival w ≡ arrival from + delay * gates

  pub slowest : (n : ℕ) (w : Wiring) → EachOnce n w → Slowest n w
  unfolding ways_in_from time_in
  slowest n (input j) once =
      record { from = j; gates = 0; below = once; way = rw (eq-eqb j j refl, ways_in_from) (mem_head refl); takes = omega arith }
  slowest n (gate a b) (apart, once_a, once_b) =
      let left = slowest n a once_a in
      let right = slowest n b once_b in
      max_cases (time_in delay arrival a) (time_in delay arrival b) _
      (λ _ e. record {
        from = right.from;
        gates = suc right.gates;
        below = right.below;
        way = mem_map suc (mem_append_right (ways_in_from right.from a) right.way);
        takes = omega (arith, e, right.takes, mul-suc delay right.gates);
      })
      (λ _ e. record {
        from = left.from;
        gates = suc left.gates;
        below = left.below;
        way = mem_map suc (mem_append_left (ways_in_from left.from b) left.way);
        takes = omega (arith, e, left.takes, mul-suc delay left.gates);
      })

-- ---- in a gate list

-- the times at the references are those of their trees
module _ (delay : ℕ) (arrival : ℕ → ℕ) where
  abbrev time_to : Tree → ℕ
  time_to t = time_in delay arrival (wiring_in t)

  gate_time_lem : (forest : List Tree) (g : Gate) → g.left < length forest → g.right < length forest
      → gate_time delay (map time_to forest) g ≡ time_to (joined_tree forest g)
  unfolding gate_time time_in
  gate_time_lem forest g l< r< = rw (map_at time_to forest g.left (leaf 0) 0 l<, map_at time_to forest g.right (leaf 0) 0 r<)

  gates_times : (gates : List Gate) (forest : List Tree) → RefersBack (length forest) gates
      → with_times delay (map time_to forest) gates ≡ map time_to (with_trees forest gates)
  gates_times = gates_step time_to joined_tree (gate_time delay) gate_time_lem

  inputs_times : (n : ℕ) → map time_to (input_trees n) ≡ map arrival (range 0 n)
  unfolding input_trees time_in
  inputs_times n = map-map time_to leaf (range 0 n)

module _ (m n : ℕ) (gates : List Gate) (net : IsNet m n gates) where
  abbrev tree : Wiring
  tree = net_wiring m n gates net

  last< : n + length gates - 1 < length (with_trees (input_trees n) gates)
  last< = omega (arith, with_each_length joined_tree (input_trees n) gates, inputs_length n)

  -- the ways from an input to the output are those in the net's tree
  ways_from_lem : (i : ℕ) → ways_from n gates i ≡ ways_in_from i tree
  unfolding ways_from starts_at input_trees ways_in_from
  ways_from_lem i =
      rw (← (map-map ways leaf (range 0 n)), gates_ways ways (λ digits a b. refl) gates (input_trees n) (rw inputs_length net.rules.back))
      (map_at ways (with_trees (input_trees n) gates) (n + length gates - 1) (leaf 0) [] last<
      ∙ ap ways (sym (net_tree m n gates net).last))
    where
      ways : Tree → List ℕ
      ways t = ways_in_from i (wiring_in t)

  -- there are as many ways as the input has leaves
  ways_many : (i : ℕ) → i < n → length (ways_from n gates i) ≡ one_where (any (eqb i) (used_by gates))
  ways_many i h =
      ap length (ways_from_lem i) ∙ ways_count n i h tree (net_tree m n gates net).once ∙ ap one_where (sym (net_uses m n gates net i h))

  -- "gates on the way": every used input has exactly one way, ..
  pub one_way : (i : ℕ) → i < n → any (eqb i) (used_by gates) ≡ true → ways_from n gates i ≡ gates_on_way n gates i ∷ []
  unfolding gates_on_way
  one_way i h used = single (ways_from n gates i) (ways_many i h ∙ ap one_where used)
    where
      single : (ks : List ℕ) → length ks ≡ 1 → ks ≡ most ks ∷ []
      single [] e = absurd (omega arith)
      single (k ∷ []) e = ap {B = List ℕ} (λ j. j ∷ []) (sym (most_one k))
      single (k ∷ l ∷ ks) e = absurd (omega arith)

  -- .. and no other input has any
  pub no_way : (i : ℕ) → i < n → any (eqb i) (used_by gates) ≡ false → ways_from n gates i ≡ []
  no_way i h free = none (ways_from n gates i) (ways_many i h ∙ ap one_where free)
    where
      none : (ks : List ℕ) → length ks ≡ 0 → ks ≡ []
      none [] e = refl
      none (k ∷ ks) e = absurd (omega arith)

  module _ (delay : ℕ) (arrivals : List ℕ) where
    abbrev arrival : ℕ → ℕ
    arrival i = get_or arrivals i 0

    -- the time that one input requires
    abbrev through : ℕ → ℕ
    through i = arrival i + delay * gates_on_way n gates i

    way_in_tree : (i : ℕ) → i < n → any (eqb i) (used_by gates) ≡ true → Memᴰ (gates_on_way n gates i) (ways_in_from i tree)
    way_in_tree i h used = rw (← ways_from_lem i, one_way i h used) (mem_head refl)

    only_way : (i k : ℕ) → i < n → any (eqb i) (used_by gates) ≡ true → Memᴰ k (ways_in_from i tree) → k ≡ gates_on_way n gates i
    only_way i k h used is = mem_eq_of_singleton (rw (← ways_from_lem i, one_way i h used) at is)

    -- the settling time is that of the net's tree, ..
    pub settling_tree : settling_time n gates delay arrivals ≡ time_in delay arrival tree
    unfolding settling_time
    settling_tree = le_antisymm most_within reached
      where
        most_within : most (map through (used_inputs n gates)) ≤ time_in delay arrival tree
        most_within =
            let (i, listed, is) = mem_of_map through (used_inputs n gates)
            (most_listed (map through (used_inputs n gates)) (rw (length-map, used_inputs_length m n gates net) (omega arith))) in
            let (i<, used) = listed_used n gates i listed in
            rw (← is) (arrival_way_within delay arrival i (gates_on_way n gates i) tree (way_in_tree i i< used))

        reached : time_in delay arrival tree ≤ most (map through (used_inputs n gates))
        reached =
            let slow = slowest delay arrival n tree (net_tree m n gates net).once in
            let used : any (eqb slow.from) (used_by gates) ≡ true = net_uses m n gates net slow.from slow.below
            ∙ leaf_from n slow.from slow.gates slow.below tree (net_tree m n gates net).once slow.way in
            rw (slow.takes, only_way slow.from slow.gates slow.below used slow.way)
            (most_bounds (through slow.from) (map through (used_inputs n gates)) (mem_map through (used_listed n gates slow.from slow.below used)))

    -- .. and that of the last gate
    pub settling_last : length arrivals ≡ n → settling_time n gates delay arrivals ≡ get_or (with_times delay arrivals gates) (n + length gates - 1) 0
    settling_last count =
        settling_tree
        ∙ ap (time_to delay arrival) (net_tree m n gates net).last
        ∙ sym (map_at (time_to delay arrival) (with_trees (input_trees n) gates) (n + length gates - 1) (leaf 0) 0 last<)
        ∙ ap (λ (times : List ℕ). get_or times (n + length gates - 1) 0)
        (sym (gates_times delay arrival gates (input_trees n) (rw inputs_length net.rules.back))
        ∙ ap (λ (times : List ℕ). with_times delay times gates)
        (inputs_times delay arrival n ∙ ap (λ (k : ℕ). map arrival (range 0 k)) (sym count) ∙ by_places 0 arrivals))
