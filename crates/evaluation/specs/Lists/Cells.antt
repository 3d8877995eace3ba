-- A net's table, from the two lists of its last gate: each pair's value goes to the cells of all assignments that agree with the pair's in the gate's group.
-- Assumes nothing.
use Rattle.std.specs.Prelude.{◌<◌, ◌≤◌, ◌+◌, ◌-◌, ◌^◌, ◌≡◌, ◌∷◌, ◌++◌, ◌*◌}
use Rattle.laws.specs.Prelude.{ℕ, ◌∙◌, sym, ap, refl, ap₂, Bool, cond, inl, inr, List, [], zero-add}
use Rattle.laws.specs.Prelude.{arith, ltb, length, get_or, take, drop, length-drop, take-append-drop, length-take-le, get_or-take, ext_get_or}
use Rattle.laws.specs.Prelude.{get_or-drop, lt-ltb, le-ltb, mul-le-mul, pow-le-pow_right}
use Rattle.rules.specs.Groups.Groups.{part, whole_group, others, points}
use Rattle.rules.specs.Calls.Answers.{written}
use Rattle.rules.specs.Nets.Value.{value, table_of}
use Rattle.laws.specs.Lists.Places.{mem_get_or, mem_place}
use Rattle.laws.specs.Lists.Ranges.{map_range_at, map_range_length}
use Rattle.trees.specs.Trees.Trees.{mix}
use Rattle.trees.specs.Groups.Levels.{mix_below, mix_self, part_mix}
use Rattle.trees.specs.Groups.Joins.{Over}
use Rattle.trees.specs.Groups.Points.{part_in_points, points_are_parts, points_empty}
use Rattle.trees.specs.Trees.Forest.{last_value}
use Rattle.radix.specs.Fronts.{Front}
use Rattle.nets.specs.declared.forms.Net.{Net}
use Rattle.nets.specs.Forms.{gates_of}
use Rattle.nets.specs.Room.{most_wires}
use Rattle.nets.specs.Sound.{Sound, sound_size, net_levels_pos, gates_length, gates_pos, wires_room}
use Rattle.nets.specs.Evaluating.{Tabled}
use Rattle.evaluation.specs.declared.lists.order.Order.{Order}
use Rattle.evaluation.specs.Lists.Entries.{pair_at_lem, pair_of_lem}
use Rattle.evaluation.specs.Lists.Wires.{wire_value, wire_below, wire_over}
use Rattle.evaluation.specs.Lists.Laid.{NetListed}
use Rattle.evaluation.specs.Lists.Painted.{Painted, Parts, row_cell, row_digit, outer_row, outer_place, PairCells, PairWrites, AllPainted, painted_none}
use Rattle.evaluation.specs.Lists.Painted.{painted_more}

-- the net's value at index x
abbrev pub value_of : Net → ℕ → ℕ
value_of net x = value net.levels net.inputs (gates_of net) x

-- what the cells will be: the net's values, and after them what they were
abbrev pub painting : Net → List ℕ → ℕ → ℕ
painting net cells x = cond (ltb x (net.levels ^ net.inputs)) (value_of net x) (get_or cells x 0)

-- the table at offset h
abbrev pub CopyWrites : Net → Order → List ℕ → List ℕ → ℕ → ℕ → ℕ → Type 0
CopyWrites net last lists offsets h =
    Parts (PairWrites last net.digits ((net.gates - 1) * (net.levels * net.levels)) (get_or offsets h 0) lists) last.outer.count

module _ (net : Net) (sound : Sound net) (lists : List ℕ) (last : Order) (listed : NetListed net lists last) where
  abbrev m : ℕ
  m = net.levels

  abbrev n : ℕ
  n = net.inputs

  -- the last gate's wire and its group
  abbrev w : ℕ
  w = n + (net.gates - 1)

  abbrev g : ℕ
  g = last.outer.group + last.inner.group

  pos : 0 < m
  pos = net_levels_pos net sound

  w< : w < n + net.gates
  w< = omega (arith, gates_pos net sound)

  pub used : (g < 2 ^ n) × Over m n g (wire_value net w)
  used = rw listed.group (wire_below net sound w w<, wire_over net sound w w<)

  -- the last gate's numbers are small
  pub last_small : (0 < net.gates) × (m * m ≤ 81) × ((net.gates - 1) * (m * m) ≤ most_wires * 81) × (g < 4096)
  last_small =
      let size = sound_size net sound in
      let squares : m * m ≤ 81 = mul-le-mul size.levels_most size.levels_most in
      let few : net.gates - 1 ≤ most_wires = omega (arith, wires_room net sound) in
      let most : 2 ^ n ≤ 2 ^ 12 = pow-le-pow_right (omega arith) size.inputs_most in
      (gates_pos net sound, squares, mul-le-mul few squares, omega (arith, used.0))

  -- if no input is left, its only assignment is 0
  pub none_left : 2 ^ n ≤ g + 1 → Front (points m n (others n g)) 1 (0 ∷ [])
  unfolding others whole_group
  none_left all =
      let none : 2 ^ n - 1 - g ≡ 0 = omega arith in
      rw (none, points_empty m n pos) (record { count = refl; is = refl })

  module _ (before : List ℕ) (room : m ^ n ≤ length before) (offsets : List ℕ) (count : ℕ) (front : Front (points m n (others n g)) count offsets) where
    -- the offsets are the assignments of the other inputs
    offset_is : (i : ℕ) → i < count → get_or offsets i 0 ≡ get_or (points m n (others n g)) i 0
    offset_is i h = sym (get_or-take count offsets i 0 h) ∙ ap (λ (t : List ℕ). get_or t i 0) front.is

    pub offset_own : (i : ℕ) → i < count → (part m n (others n g) (get_or offsets i 0) ≡ get_or offsets i 0) × (get_or offsets i 0 < m ^ n)
    offset_own i h = rw (offset_is i h) (points_are_parts m n pos (others n g) _ (mem_get_or (points m n (others n g)) i 0 (omega (arith, front.count))))

    -- a pair and an offset have the value and the cell of some assignment
    cell_known : (h i j : ℕ) → h < count → i < last.outer.count → j < last.inner.count
        → (z : ℕ) × (z < m ^ n) × (row_cell last.inner (outer_place last (get_or offsets h 0) lists i) lists j ≡ z)
        × (get_or net.digits (row_digit last.inner (outer_row last ((net.gates - 1) * (m * m)) lists i) last.step lists j) 0 ≡ value_of net z)
    unfolding mix
    cell_known h i j h< i< j< =
        let (x, place, _, digit) = pair_at_lem m n pos listed i j i< j< in
        let place_g = place ∙ ap (λ (k : ℕ). part m n k x) (sym listed.group) in
        let y = get_or offsets h 0 in (
          mix m n g x y,
          mix_below m n pos g x y used.0,
          omega (arith, offset_own h h<, place_g),
          digit ∙ used.1 x (mix m n g x y) (sym (part_mix m n pos g x y used.0)) ∙ last_is (mix m n g x y),
        )
      where
        last_is : (z : ℕ) → wire_value net w z ≡ value_of net z
        last_is z =
            let e : n + (net.gates - 1) ≡ n + net.gates - 1 = omega (arith, gates_pos net sound) in
            rw e (sym (rw gates_length at (last_value m n z (gates_of net) sound.gates.some sound.gates.rules.back)))

    -- .. and every assignment has its pair and its offset
    cell_reached : (x : ℕ) → x < m ^ n → (v : ℕ) × Parts (CopyWrites net last lists offsets) count x v
    unfolding mix
    cell_reached x below =
        let (i, j, i<, j<, place) = pair_of_lem m n pos listed x in
        let place_g = place ∙ ap (λ (k : ℕ). part m n k x) (sym listed.group) in
        let (h, h<, at) = mem_place (part m n (others n g) x) (points m n (others n g)) (part_in_points m n pos (others n g) x) in
        let low : h < count = omega (arith, front.count) in
        (_, (h, low, (i, i<, (j, j<, (omega (arith, place_g, offset_is h low, at, mix_self m n pos g x used.0 below), refl)))))

    inside : (x : ℕ) → x < m ^ n → painting net before x ≡ value_of net x
    inside x h = ap (λ (t : Bool). cond t (value_of net x) (get_or before x 0)) (lt-ltb x (m ^ n) h)

    outside : (x : ℕ) → m ^ n ≤ x → painting net before x ≡ get_or before x 0
    outside x h = ap (λ (t : Bool). cond t (value_of net x) (get_or before x 0)) (le-ltb x (m ^ n) h)

    fits : (c v : ℕ) → Parts (CopyWrites net last lists offsets) count c v → v ≡ painting net before c
    fits c v (h, h<, (i, i<, (j, j<, (at, is)))) =
        let (z, z<, at_z, is_z) = cell_known h i j h< i< j< in
        sym is ∙ is_z ∙ sym (inside z z<) ∙ ap (painting net before) (sym at_z ∙ at)

    pub copy_cells : (h : ℕ) → h < count → (cells : List ℕ) → length cells ≡ length before
        → PairCells last net.digits ((net.gates - 1) * (m * m)) (get_or offsets h 0) lists cells
    copy_cells h h< cells same =
        record {
          few = listed.few;
          from_there = omega (arith, listed.there 0);
          near = omega (arith, offset_own h h<, (sound_size net sound).cells_most);
          outer_there = listed.outer.there;
          rows = λ i i<. record {
            there = listed.inner.there;
            digit_there = λ j j<. let (_, _, there, _) = pair_at_lem m n pos listed i j i< j< in there;
            room = λ j j<. let (z, z<, at, _) = cell_known h i j h< i< j< in omega (arith, z<, at, same, room);
          };
        }

    module _ (cells : List ℕ) (done : Painted (Parts (CopyWrites net last lists offsets) count) before cells) where
      front_is : take (m ^ n) cells ≡ table_of m n (gates_of net)
      unfolding table_of
      front_is =
          ext_get_or 0 _ _ (front_long ∙ sym (map_range_length (value_of net) 0 (m ^ n)))
          (λ x h. let low : x < m ^ n = omega (arith, front_long) in
          get_or-take (m ^ n) cells x 0 low ∙ done.agree (painting net before) fits x (inr (cell_reached x low)) ∙ inside x low
          ∙ sym (map_range_at (value_of net) 0 (m ^ n) x 0 low ∙ ap (value_of net) (zero-add x)))
        where
          front_long : length (take (m ^ n) cells) ≡ m ^ n
          front_long = length-take-le (m ^ n) cells (omega (arith, done.same, room))

      rest_is : drop (m ^ n) cells ≡ drop (m ^ n) before
      rest_is =
          ext_get_or 0 _ _ (length-drop (m ^ n) cells ∙ ap (λ (k : ℕ). k - m ^ n) done.same ∙ sym (length-drop (m ^ n) before))
          (λ x h. let out = outside (m ^ n + x) (omega arith) in
          get_or-drop (m ^ n) cells x 0 ∙ done.agree (painting net before) fits _ (inl (sym out)) ∙ out ∙ sym (get_or-drop (m ^ n) before x 0))

      pub cells_done : Tabled net before cells (m ^ n)
      unfolding written table_of
      cells_done =
          record {
            result = refl;
            front = front_is;
            cells = sym (take-append-drop (m ^ n) cells) ∙ ap₂ (λ (a b : List ℕ). a ++ b) front_is rest_is
                ∙ ap (λ (k : ℕ). table_of m n (gates_of net) ++ drop k before) (sym (map_range_length (value_of net) 0 (m ^ n)));
          }

  -- all inputs are used
  module _ (all : 2 ^ n ≤ g + 1) (before : List ℕ) (room : m ^ n ≤ length before) where
    pub whole_cells : PairCells last net.digits ((net.gates - 1) * (m * m)) 0 lists before
    whole_cells = copy_cells before room (0 ∷ []) 1 (none_left all) 0 (omega arith) before refl

    pub whole_done : (cells : List ℕ) → AllPainted last net.digits ((net.gates - 1) * (m * m)) 0 lists last.outer.count before cells
        → Tabled net before cells (m ^ n)
    whole_done cells painted =
        cells_done before room (0 ∷ []) 1 (none_left all) cells
        (painted_more (CopyWrites net last lists (0 ∷ [])) before 0 before cells (painted_none _ _) painted)
