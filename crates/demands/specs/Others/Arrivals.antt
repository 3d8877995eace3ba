-- Document 02, K5: the answer of the call for arrival times, and what it says about all arrivals inside the ranges. "Arrival times count used inputs
-- only." (K12): the ranges of the others do not matter.
-- Assumes nothing.
use Rattle.std.specs.Prelude.{◌<◌, ◌≤◌, ◌+◌, ◌-◌, ◌*◌, ◌≡◌}
use Rattle.laws.specs.Prelude.{ℕ, ◌∙◌, sym, ap, refl, subst, true, false, List, map, zero-mul, mul-le-mul_right, mul-le-mul}
use Rattle.laws.specs.Prelude.{le_refl, arith, eqb, length, get_or, length-map, get_or-map, answer_cases}
use Rattle.rules.specs.Calls.Answers.{accepted}
use Rattle.rules.specs.Limits.{most_inputs, most_time, most_delay}
use Rattle.rules.specs.Lists.{any}
use Rattle.rules.specs.Nets.Arrivals.{settling_time, earliest_settling, latest_settling, Ends, settles, quarter, ends_of, arrivals_call}
use Rattle.rules.specs.Sheets.Reading.{read_net}
use Rattle.rules.specs.Sheets.SheetRules.{NetRules}
use Rattle.rules.specs.Sheets.Sheets.{Net, used_by}
use Rattle.std.specs.Float.Ieee.Exact.{HasValue}
use Rattle.rules.specs.Sheets.ArrivalSheet.{Arrival, fixed, earliest_of, latest_of, read_arrivals, EachArrivalRules, ArrivalSheetRules}
use Rattle.laws.specs.Numbers.Quarters.{exact_below, quarter_exact}
use Rattle.laws.specs.Calls.Arrivals.{arrivals_net_refused, arrivals_refused_lem, arrivals_timed}
use Rattle.laws.specs.Nets.ArrivalEnds.{arrival_at, each_order}
use Rattle.laws.specs.Numbers.Sizes.{kept_size}
use Rattle.laws.specs.Nets.SettlingTimes.{settles_later, settles_same, settles_scaled}
use Rattle.laws.specs.Nets.Times.{times_most}
use Rattle.readback.specs.Sheets.ReadBack.{net_accepted}
use Rattle.readback.specs.Arrivals.ArrivalSheets as sheets
use Rattle.trees.specs.Trees.UsedOnce.{listed_used}
use Rattle.trees.specs.Arrivals.ArrivalTimes.{settling_last}

-- ---- what an answer is about

-- two accepted sheets, and the ends for that net and those arrivals
pub record SettlesAs (s r : List ℕ) (delay : ℕ) (ends : Ends) : Type 0 where
  pub net : Net
  pub arrivals : List Arrival
  pub reads : read_net s ≡ accepted net
  pub arrive : read_arrivals net.header.names r ≡ accepted arrivals
  pub are : ends ≡ ends_of net arrivals delay

-- the call settles exactly if both sheets are accepted
pub settles_as : (s r : List ℕ) (delay : ℕ) (ends : Ends) → arrivals_call s r delay ≡ settles ends → SettlesAs s r delay ends
settles_as s r delay ends e = answer_cases (read_net s)
    (λ number place reads.
    let is = arrivals_net_refused s r delay number place reads in
    absurd (let z : ◌≡◌ {A = ℕ} 0 1 = cc in omega arith))
    (λ net reads. answer_cases (read_arrivals net.header.names r)
    (λ number place arrive.
    let is = arrivals_refused_lem s r delay net reads number place arrive in
    absurd (let z : ◌≡◌ {A = ℕ} 0 1 = cc in omega arith))
    (λ arrivals arrive.
    let is = arrivals_timed s r delay net reads arrivals arrive in
    record { net = net; arrivals = arrivals; reads = reads; arrive = arrive; are = cc }))

-- ---- arrivals inside the ranges

-- Times in a unit of 1/k quarter, each inside its input's range, at the inputs `Meant`.
pub record Inside (Meant : ℕ → Type 0) (arrivals : List Arrival) (k : ℕ) (times : List ℕ) : Type 0 where
  pub not_before : (i : ℕ) → Meant i → earliest_of (arrival_at arrivals i) * k ≤ get_or times i 0
  pub not_after : (i : ℕ) → Meant i → get_or times i 0 ≤ latest_of (arrival_at arrivals i) * k

-- every input
abbrev pub ArrivalsListed : Net → ℕ → Type 0
ArrivalsListed net i = i < net.header.inputs

-- "used inputs only": those that some gate refers to
abbrev pub Used : Net → ℕ → Type 0
Used net i = (i < net.header.inputs) × (any (eqb i) (used_by net.gates) ≡ true)

-- a list with each number multiplied by k
scaled : ℕ → List ℕ → List ℕ
scaled k times = map (λ time. time * k) times

scaled_at : (k : ℕ) (times : List ℕ) (i : ℕ) → get_or (scaled k times) i 0 ≡ get_or times i 0 * k
unfolding scaled
scaled_at k times i = ap (get_or (scaled k times) i) (sym (zero-mul k)) ∙ get_or-map (λ time. time * k) times i 0

-- the end of an input's range
end_at : (end : Arrival → ℕ) → end (fixed 0) ≡ 0 → (arrivals : List Arrival) (i : ℕ) → get_or (map end arrivals) i 0 ≡ end (arrival_at arrivals i)
end_at end none arrivals i = ap (get_or (map end arrivals) i) (sym none) ∙ get_or-map end arrivals i (fixed 0)

module _ (net : Net) (arrivals : List Arrival) (delay : ℕ) where
  abbrev inputs : ℕ
  inputs = net.header.inputs

  -- the settling time in that unit, with the delay in that unit too
  abbrev settled_at : ℕ → List ℕ → ℕ
  settled_at k times = settling_time inputs net.gates (delay * k) times

  at_end : (end : Arrival → ℕ) → end (fixed 0) ≡ 0 → (k i : ℕ) → get_or (scaled k (map end arrivals)) i 0 ≡ end (arrival_at arrivals i) * k
  at_end end none k i = scaled_at k (map end arrivals) i ∙ ap (λ (time : ℕ). time * k) (end_at end none arrivals i)

  -- the ends in that unit
  earliest_scaled : (k : ℕ) → settled_at k (scaled k (map earliest_of arrivals)) ≡ earliest_settling net arrivals delay * k
  unfolding earliest_settling
  earliest_scaled k = settles_scaled inputs net.gates delay k (map earliest_of arrivals) (scaled k (map earliest_of arrivals))
      (λ i _. scaled_at k (map earliest_of arrivals) i)

  latest_scaled : (k : ℕ) → settled_at k (scaled k (map latest_of arrivals)) ≡ latest_settling net arrivals delay * k
  unfolding latest_settling
  latest_scaled k = settles_scaled inputs net.gates delay k (map latest_of arrivals) (scaled k (map latest_of arrivals))
      (λ i _. scaled_at k (map latest_of arrivals) i)

  -- times that agree at the used inputs settle at the same time
  pub used_alone : (k : ℕ) (times others : List ℕ) → ((i : ℕ) → Used net i → get_or times i 0 ≡ get_or others i 0) → settled_at k times ≡ settled_at k others
  used_alone k times others same =
      settles_same inputs net.gates (delay * k) times others (λ i listed. same i (listed_used inputs net.gates i listed))

  -- "For any arrivals inside the ranges it lies within the answer", in quarters (k is 1) and in any finer unit; only used inputs have to be inside
  pub settles_within : (k : ℕ) (times : List ℕ) → Inside (Used net) arrivals k times
      → (earliest_settling net arrivals delay * k ≤ settled_at k times) × (settled_at k times ≤ latest_settling net arrivals delay * k)
  settles_within k times inside = (
    rw (← earliest_scaled k) (settles_later inputs net.gates (delay * k) (scaled k (map earliest_of arrivals)) times
        (λ i h. rw (at_end earliest_of refl k i) (inside.not_before i (listed_used inputs net.gates i h)))),
    rw (← latest_scaled k) (settles_later inputs net.gates (delay * k) times (scaled k (map latest_of arrivals))
        (λ i h. rw (at_end latest_of refl k i) (inside.not_after i (listed_used inputs net.gates i h)))),
  )

  module _ (kept : EachArrivalRules arrivals) where
    in_order : (k i : ℕ) → earliest_of (arrival_at arrivals i) * k ≤ latest_of (arrival_at arrivals i) * k
    in_order k i = mul-le-mul_right k (each_order arrivals kept i).0

    -- ".. and each end is met by some."
    pub earliest_met : (k : ℕ) → (times : List ℕ) × Inside (ArrivalsListed net) arrivals k times × (settled_at k times ≡ earliest_settling net arrivals delay * k)
    earliest_met k = (
      scaled k (map earliest_of arrivals),
      record {
        not_before = λ i _. rw (at_end earliest_of refl k i) (le_refl _);
        not_after = λ i _. rw (at_end earliest_of refl k i) (in_order k i);
      },
      earliest_scaled k,
    )

    pub latest_met : (k : ℕ) → (times : List ℕ) × Inside (ArrivalsListed net) arrivals k times × (settled_at k times ≡ latest_settling net arrivals delay * k)
    latest_met k = (
      scaled k (map latest_of arrivals),
      record {
        not_before = λ i _. rw (at_end latest_of refl k i) (in_order k i);
        not_after = λ i _. rw (at_end latest_of refl k i) (le_refl _);
      },
      latest_scaled k,
    )

-- ---- the answer

module _ (s r : List ℕ) (net : Net) (arrivals : List Arrival) (reads : read_net s ≡ accepted net)
    (arrive : read_arrivals net.header.names r ≡ accepted arrivals) where
  kept_net_lem : NetRules net
  kept_net_lem = (net_accepted s net reads).1

  -- the arrivals of an accepted sheet follow the rules, one for each input
  pub arrivals_kept : ArrivalSheetRules net.header.names arrivals
  arrivals_kept = (sheets.arrivals_accepted net.header.names kept_net_lem.header.names r arrivals arrive).1

  many : length arrivals ≡ net.header.inputs
  many = arrivals_kept.count ∙ kept_net_lem.header.count

  module _ (delay : ℕ) (byte : delay ≤ most_delay) where
    -- no settling is later than the latest time and one delay for each gate
    settling_small : (end : Arrival → ℕ) → end (fixed 0) ≡ 0 → ((i : ℕ) → end (arrival_at arrivals i) ≤ most_time)
        → settling_time net.header.inputs net.gates delay (map end arrivals) < exact_below
    settling_small end none small =
        let size = kept_size net.header kept_net_lem.header in
        let each : (i : ℕ) → get_or (map end arrivals) i 0 ≤ most_time = λ i. rw (end_at end none arrivals i) (small i) in
        let bound = times_most delay most_time (map end arrivals) net.gates each (net.header.inputs + length net.gates - 1) in
        let most = mul-le-mul byte (let few : length net.gates ≤ most_inputs = omega (arith, size.inputs_most, kept_net_lem.gates.count) in few) in
        rw (settling_last net.header.levels net.header.inputs net.gates kept_net_lem.gates delay (map end arrivals) (length-map arrivals end ∙ many))
        (omega (arith, bound, most))

    -- "as floats, and it is exact": each end is a quarter of the whole number that the definition gives
    pub earliest_exact : HasValue (ends_of net arrivals delay).earliest false (earliest_settling net arrivals delay) 4
    unfolding ends_of earliest_settling
    earliest_exact = quarter_exact _
        (settling_small earliest_of refl (λ i. let order = each_order arrivals arrivals_kept.each i in omega (arith, order.0, order.1)))

    pub latest_exact : HasValue (ends_of net arrivals delay).latest false (latest_settling net arrivals delay) 4
    unfolding ends_of latest_settling
    latest_exact = quarter_exact _ (settling_small latest_of refl (λ i. (each_order arrivals arrivals_kept.each i).1))

-- ---- all of this, for the call

-- What the two floats mean: they are exactly `earliest` and `latest` quarters; arrivals inside the ranges settle between these, and some at each.
pub record Promised (s r : List ℕ) (delay : ℕ) (ends : Ends) : Type 0 where
  pub net : Net
  pub arrivals : List Arrival
  pub reads : read_net s ≡ accepted net
  pub arrive : read_arrivals net.header.names r ≡ accepted arrivals
  pub earliest : ℕ
  pub latest : ℕ
  pub earliest_value : HasValue ends.earliest false earliest 4
  pub latest_value : HasValue ends.latest false latest 4
  pub within : (k : ℕ) (times : List ℕ) → Inside (Used net) arrivals k times
      → (earliest * k ≤ settling_time net.header.inputs net.gates (delay * k) times)
      × (settling_time net.header.inputs net.gates (delay * k) times ≤ latest * k)
  pub earliest_met : (k : ℕ) → (times : List ℕ) × Inside (ArrivalsListed net) arrivals k times
      × (settling_time net.header.inputs net.gates (delay * k) times ≡ earliest * k)
  pub latest_met : (k : ℕ) → (times : List ℕ) × Inside (ArrivalsListed net) arrivals k times
      × (settling_time net.header.inputs net.gates (delay * k) times ≡ latest * k)

pub arrivals_hold : (s r : List ℕ) (delay : ℕ) → delay ≤ most_delay → (ends : Ends) → arrivals_call s r delay ≡ settles ends → Promised s r delay ends
arrivals_hold s r delay byte ends e =
    let from = settles_as s r delay ends e in
    let kept = (arrivals_kept s r from.net from.arrivals from.reads from.arrive).each in
    record {
      net = from.net;
      arrivals = from.arrivals;
      reads = from.reads;
      arrive = from.arrive;
      earliest = earliest_settling from.net from.arrivals delay;
      latest = latest_settling from.net from.arrivals delay;
      earliest_value = subst (λ (some : Ends). HasValue some.earliest false (earliest_settling from.net from.arrivals delay) 4) (sym from.are)
          (earliest_exact s r from.net from.arrivals from.reads from.arrive delay byte);
      latest_value = subst (λ (some : Ends). HasValue some.latest false (latest_settling from.net from.arrivals delay) 4) (sym from.are)
          (latest_exact s r from.net from.arrivals from.reads from.arrive delay byte);
      within = settles_within from.net from.arrivals delay;
      earliest_met = earliest_met from.net from.arrivals delay kept;
      latest_met = latest_met from.net from.arrivals delay kept;
    }

-- ---- the other inputs

-- "Arrival times count used inputs only.": two arrival sheets with the same arrival at every used input get the same answer
pub used_answer : (s r q : List ℕ) (net : Net) (arrivals others : List Arrival) → read_net s ≡ accepted net
    → read_arrivals net.header.names r ≡ accepted arrivals → read_arrivals net.header.names q ≡ accepted others
    → ((i : ℕ) → Used net i → arrival_at arrivals i ≡ arrival_at others i) → (delay : ℕ) → arrivals_call s r delay ≡ arrivals_call s q delay
unfolding ends_of earliest_settling latest_settling
used_answer s r q net arrivals others reads arrive arrive_other same delay =
    arrivals_timed s r delay net reads arrivals arrive
    ∙ (λ i. settles (record { earliest = quarter (ends earliest_of refl i); latest = quarter (ends latest_of refl i) }))
    ∙ sym (arrivals_timed s q delay net reads others arrive_other)
  where
    ends : (end : Arrival → ℕ) → end (fixed 0) ≡ 0
        → settling_time net.header.inputs net.gates delay (map end arrivals) ≡ settling_time net.header.inputs net.gates delay (map end others)
    ends end none =
        settles_same net.header.inputs net.gates delay (map end arrivals) (map end others)
        (λ i listed. end_at end none arrivals i ∙ ap end (same i (listed_used net.header.inputs net.gates i listed)) ∙ sym (end_at end none others i))
