-- The ends of the wires, one after the other: those of the inputs, and gate by gate.
-- Assumes nothing.
use Rattle.std.specs.Prelude.{Float, ◌<◌, ◌≤◌, ◌+◌, ◌-◌, ◌*◌, ◌≡◌, ◌∷◌, ◌++◌, All}
use Rattle.std.proofs.lemmas.List.{map_more}
use Rattle.std.proofs.lemmas.List.Elements.{All-map}
use Rattle.laws.specs.Prelude.{ℕ, max, ◌∙◌, sym, ap, refl, ap₂, List, [], map, map-map, mul-le-mul, add-one, dec_lt, ℕ_discrete, arith, length, get_or}
use Rattle.laws.specs.Prelude.{take, set, length-set, length-map, length-take-le, get_or-append, get_or-eq_default, get_or-set_same}
use Rattle.laws.specs.Prelude.{get_or-set_other, get_or_at}
use Rattle.rules.specs.Lists.{range, with_each}
use Rattle.rules.specs.Limits.{most_inputs, most_time, most_delay}
use Rattle.rules.specs.Sheets.ArrivalSheet.{Arrival, earliest_of, latest_of}
use Rattle.rules.specs.Nets.Arrivals.{settling_time, quarter}
use Rattle.laws.specs.Nets.ArrivalEnds.{earliest_of_lem, latest_of_lem}
use Rattle.laws.specs.Lists.Concat.{map_same}
use Rattle.laws.specs.Lists.Places.{length_snoc}
use Rattle.laws.specs.Numbers.Quarters.{exact_below}
use Rattle.laws.specs.Lists.Ranges.{map_range_length, map_range_suc}
use Rattle.laws.specs.Nets.Times.{gate_time, with_times, times_most}
use Rattle.laws.specs.Lists.WithEach.{with_each_length, with_each_snoc}
use Rattle.trees.specs.Arrivals.ArrivalTimes.{settling_last}
use Rattle.nets.specs.declared.forms.Net.{Net}
use Rattle.nets.specs.Forms.{gate_of, gates_of}
use Rattle.nets.specs.References.{gate_step}
use Rattle.nets.specs.Room.{most_wires}
use Rattle.nets.specs.Sound.{Sound, sound_size, gates_pos, gates_count, gates_length, wires_room}
use Rattle.arrivals.specs.declared.sheet.lines.Span.{Span}
use Rattle.arrivals.specs.Sheet.Line.{arrival_in}
use Rattle.arrivals.specs.Sheet.Lines.{TimesHeld, arrivals_in}
use Rattle.arrivals.specs.declared.arrival.Ends.{Ends}
use Rattle.arrivals.specs.Ends.{ends_at, ends_in, timed, ends_timed, joined_ends, joined_at}

-- the wires so far have these ends, in quarters
pub record WiresAt (early late : List ℕ) (ends : List Ends) : Type 0 where
  pub room : length ends ≡ most_wires
  pub many : length early ≡ length late
  pub each : (d : Ends) (i : ℕ) → i < length early → get_or ends i d ≡ ends_at (get_or early i 0) (get_or late i 0)

-- one more wire
pub wires_snoc : (early late : List ℕ) (ends : List Ends) → WiresAt early late ends → (k : ℕ) → k ≡ length early → k < most_wires
    → (e l : ℕ) (more : Ends) → more ≡ ends_at e l → WiresAt (early ++ (e ∷ [])) (late ++ (l ∷ [])) (set ends k more)
wires_snoc early late ends wires k is few e l more ends_more =
    record {
      room = length-set ends k more ∙ wires.room;
      many = omega (arith, length_snoc early e, length_snoc late l, wires.many);
      each = λ d i h. go d i h (ℕ_discrete i k);
    }
  where
    go : (d : Ends) (i : ℕ) → i < length (early ++ (e ∷ [])) → Dec (i ≡ k)
        → get_or (set ends k more) i d ≡ ends_at (get_or (early ++ (e ∷ [])) i 0) (get_or (late ++ (l ∷ [])) i 0)
    go d i h (yes at) =
        rw at (get_or-set_same ends k more d (omega (arith, wires.room)) ∙ ends_more
        ∙ ap₂ ends_at (sym (get_or_at early e [] 0 k (sym is))) (sym (get_or_at late l [] 0 k (sym wires.many ∙ sym is))))
    go d i h (no other) =
        let low : i < length early = omega (arith, h, length_snoc early e, is) in
        get_or-set_other ends k i more d other ∙ wires.each d i low
        ∙ ap₂ ends_at (sym (get_or-append early (e ∷ []) 0 i low)) (sym (get_or-append late (l ∷ []) 0 i (omega (arith, low, wires.many))))

-- ---- the inputs

-- the two ends of an input's times
abbrev pub from_of : Span → ℕ
from_of span = span.from

abbrev pub to_of : Span → ℕ
to_of span = span.to

-- the times of the first `count` inputs at one end
abbrev pub first_times : (Span → ℕ) → List Span → ℕ → List ℕ
first_times end times count = map end (take count times)

first_length : (end : Span → ℕ) (times : List Span) (count : ℕ) → count ≤ length times → length (first_times end times count) ≡ count
first_length end times count many = length-map (take count times) end ∙ length-take-le count times many

pub arrival_inputs_none : (times : List Span) (ends : List Ends) → length ends ≡ most_wires
    → WiresAt (first_times from_of times 0) (first_times to_of times 0) ends
arrival_inputs_none times ends room = record { room = room; many = refl; each = λ d i h. absurd (omega arith) }

pub inputs_more : (times : List Span) (i : ℕ) (ends : List Ends) → WiresAt (first_times from_of times i) (first_times to_of times i) ends
    → i < length times → i < most_wires → (d : Span) (more : Ends) → more ≡ ends_in (timed (arrival_in (get_or times i d)))
    → WiresAt (first_times from_of times (i + 1)) (first_times to_of times (i + 1)) (set ends i more)
inputs_more times i ends wires low few d more e =
    let span = get_or times i d in
    rw (map_more from_of times i d low, map_more to_of times i d low)
    (wires_snoc (first_times from_of times i) (first_times to_of times i) ends wires i (sym (first_length from_of times i (omega (arith, low)))) few
    span.from span.to more (e ∙ ends_timed (arrival_in span) ∙ ap₂ ends_at (earliest_of_lem span.from span.to) (latest_of_lem span.from span.to)))

-- ---- the gates

-- when the output settles
abbrev pub settled : Net → List Arrival → ℕ → Ends
settled net arrivals delay =
    ends_at (settling_time net.inputs (gates_of net) delay (map earliest_of arrivals)) (settling_time net.inputs (gates_of net) delay (map latest_of arrivals))

-- the times of the inputs and of the first k gates, from the inputs' times at one end
abbrev pub times_to : Net → ℕ → List ℕ → ℕ → List ℕ
times_to net delay first k = with_times delay first (map (gate_of net) (range 0 k))

-- the first k gates have their ends
abbrev pub Wired : Net → List Span → ℕ → ℕ → List Ends → Type 0
Wired net times delay k ends =
    WiresAt (times_to net delay (first_times from_of times net.inputs) k) (times_to net delay (first_times to_of times net.inputs) k) ends

pub wired_none : (net : Net) (times : List Span) (delay : ℕ) (ends : List Ends)
    → WiresAt (first_times from_of times net.inputs) (first_times to_of times net.inputs) ends
    → Wired net times delay 0 ends
unfolding range with_each
wired_none net times delay ends wires = wires

-- the same given only the inputs' ends, for any times that have these ends
abbrev pub ArrivalTurned : Net → ℕ → List Ends → ℕ → List Ends → Type 0
ArrivalTurned net delay inputs_ends k ends =
    (times : List Span) → TimesHeld times net.inputs → WiresAt (first_times from_of times net.inputs) (first_times to_of times net.inputs) inputs_ends
    → Wired net times delay k ends

-- no time at one end is beyond the exact ones
first_most : (b : ℕ) (first : List ℕ) → All (λ time. time ≤ b) first → (i : ℕ) → get_or first i 0 ≤ b
first_most b first most i = go (dec_lt i (length first))
  where
    go : Dec (i < length first) → get_or first i 0 ≤ b
    go (yes h) = most i 0 h
    go (no h) = rw (get_or-eq_default first 0 {n = i} (omega arith)) (omega arith)

module _ (net : Net) (sound : Sound net) (delay : ℕ) (byte : delay ≤ most_delay) (first : List ℕ) (count : length first ≡ net.inputs)
    (most : All (λ time. time ≤ most_time) first) where
  to_length : (k : ℕ) → length (times_to net delay first k) ≡ net.inputs + k
  to_length k =
      with_each_length (gate_time delay) first (map (gate_of net) (range 0 k))
      ∙ ap₂ ◌+◌ count (map_range_length (gate_of net) 0 k)

  to_small : (k : ℕ) → k ≤ net.gates → (i : ℕ) → get_or (times_to net delay first k) i 0 < exact_below
  to_small k low i =
      let bound = times_most delay most_time first (map (gate_of net) (range 0 k)) (first_most most_time first most) i in
      let few : k ≤ most_inputs = omega (arith, gates_count net sound, (sound_size net sound).inputs_most) in
      let small : delay * k ≤ most_delay * most_inputs = mul-le-mul byte few in
      omega (arith, rw (map_range_length (gate_of net) 0 k) at bound, small)

  to_more : (k : ℕ) → times_to net delay first (k + 1) ≡ times_to net delay first k ++ (gate_time delay (times_to net delay first k) (gate_of net k) ∷ [])
  to_more k = rw (add-one, map_range_suc, with_each_snoc)

  -- the last gate's time is the settling time
  to_last : (arrivals : List ℕ) → arrivals ≡ first
      → get_or (times_to net delay first net.gates) (net.inputs + net.gates - 1) 0 ≡ settling_time net.inputs (gates_of net) delay arrivals
  unfolding gates_of
  to_last arrivals e =
      ap (λ (k : ℕ). get_or (times_to net delay first net.gates) (net.inputs + k - 1) 0) (sym (gates_length net))
      ∙ sym (settling_last net.levels net.inputs (gates_of net) sound.gates delay first count)
      ∙ ap (settling_time net.inputs (gates_of net) delay) (sym e)

module _ (net : Net) (sound : Sound net) (delay : ℕ) (byte : delay ≤ most_delay) (times : List Span) (held : TimesHeld times net.inputs) where
  abbrev froms : List ℕ
  froms = first_times from_of times net.inputs

  abbrev tos : List ℕ
  tos = first_times to_of times net.inputs

  count_of : (end : Span → ℕ) → length (first_times end times net.inputs) ≡ net.inputs
  count_of end = first_length end times net.inputs (omega (arith, held.many, (sound_size net sound).inputs_most))

  from_most : All (λ time. time ≤ most_time) froms
  from_most = All-map (λ time. time ≤ most_time) from_of (take net.inputs times) (λ i d h. omega (arith, (held.order i d h).0, (held.order i d h).1))

  to_most : All (λ time. time ≤ most_time) tos
  to_most = All-map (λ time. time ≤ most_time) to_of (take net.inputs times) (λ i d h. (held.order i d h).1)

  module _ (k : ℕ) (ends : List Ends) (wired : Wired net times delay k ends) where
    abbrev early : List ℕ
    early = times_to net delay froms k

    abbrev late : List ℕ
    late = times_to net delay tos k

    -- the ends that the code reads at a reference
    at_reference : (d : Ends) (i : ℕ) → i < net.inputs + k → get_or ends i d ≡ ends_at (get_or early i 0) (get_or late i 0)
    at_reference d i h = wired.each d i (rw (to_length net sound delay byte froms (count_of from_of) from_most k) h)

    module _ (turn : k < net.gates) where
      -- joining two of them
      gate_ends : (left right : ℕ)
          → joined_ends (ends_at (get_or early left 0) (get_or late left 0)) (ends_at (get_or early right 0) (get_or late right 0)) (quarter delay)
          ≡ ends_at (max (get_or early left 0) (get_or early right 0) + delay) (max (get_or late left 0) (get_or late right 0) + delay)
      gate_ends left right =
          let first = to_small net sound delay byte froms (count_of from_of) from_most k (omega arith) in
          let last = to_small net sound delay byte tos (count_of to_of) to_most k (omega arith) in
          joined_at (get_or early left 0) (get_or late left 0) (get_or early right 0) (get_or late right 0) delay
          (omega (arith, first left, first right)) (omega (arith, last left, last right)) (omega arith)

      pub wired_more : (a b : Ends) (step : Float) (more : Ends) (d f : Ends)
          → a ≡ get_or ends (get_or net.left k 0) d → b ≡ get_or ends (get_or net.right k 0) f
          → step ≡ quarter delay → more ≡ joined_ends a b step → Wired net times delay (k + 1) (set ends (net.inputs + k) more)
      unfolding gate_time gate_of
      wired_more a b step more d f is_a_lem is_b is_step is_more =
          let few : net.inputs + k < most_wires = omega (arith, wires_room net sound) in
          rw (to_more net sound delay byte froms (count_of from_of) from_most k, to_more net sound delay byte tos (count_of to_of) to_most k)
          (wires_snoc early late ends wired (net.inputs + k) (sym (to_length net sound delay byte froms (count_of from_of) from_most k)) few
          (gate_time delay early (gate_of net k)) (gate_time delay late (gate_of net k)) more (is_more ∙ read_ends))
        where
          read_ends : joined_ends a b step ≡ ends_at (gate_time delay early (gate_of net k)) (gate_time delay late (gate_of net k))
          read_ends =
              let back = gate_step net sound k turn in
              (λ i. joined_ends ((is_a_lem ∙ at_reference d (get_or net.left k 0) back.0) i) ((is_b ∙ at_reference f (get_or net.right k 0) back.1) i)
              (is_step i))
              ∙ gate_ends (get_or net.left k 0) (get_or net.right k 0)

  pub wired_all : (k : ℕ) (ends : List Ends) → Wired net times delay k ends → k ≡ net.gates → (d : Ends)
      → get_or ends (net.inputs + net.gates - 1) d ≡ settled net (arrivals_in times net.inputs) delay
  unfolding arrivals_in
  wired_all k ends wired is d =
      let last : net.inputs + net.gates - 1 < net.inputs + k = omega (arith, gates_pos net sound) in
      at_reference k ends wired d (net.inputs + net.gates - 1) last
      ∙ ap (λ (j : ℕ). ends_at (get_or (times_to net delay froms j) (net.inputs + net.gates - 1) 0)
      (get_or (times_to net delay tos j) (net.inputs + net.gates - 1) 0)) is
      ∙ ap₂ ends_at
      (to_last net sound delay byte froms (count_of from_of) from_most (map earliest_of (arrivals_in times net.inputs))
      (ends_in_lem earliest_of from_of (λ span. earliest_of_lem span.from span.to)))
      (to_last net sound delay byte tos (count_of to_of) to_most (map latest_of (arrivals_in times net.inputs))
      (ends_in_lem latest_of to_of (λ span. latest_of_lem span.from span.to)))
    where
      ends_in_lem : (end : Arrival → ℕ) (own : Span → ℕ) → ((span : Span) → end (arrival_in span) ≡ own span)
          → map end (arrivals_in times net.inputs) ≡ first_times own times net.inputs
      ends_in_lem end own same = map-map end arrival_in (take net.inputs times) ∙ map_same _ own same (take net.inputs times)
