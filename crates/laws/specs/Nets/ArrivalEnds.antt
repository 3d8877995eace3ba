-- The two ends of an arrival, and of each of a list of arrivals.
-- Assumes nothing.
use Rattle.std.specs.Prelude.{◌≤◌, ◌≡◌, ◌∷◌}
use Rattle.laws.specs.Prelude.{ℕ, suc, zero, sym, refl, true, false, Bool, List, [], arith, eqb, get_or, eq-eqb, eqb-true, ne_eqb}
use Rattle.laws.specs.Prelude.{eqb-false}
use Rattle.rules.specs.Limits.{most_time}
use Rattle.rules.specs.Sheets.ArrivalSheet.{Arrival, fixed, between, arrival_of, earliest_of, latest_of, ArrivalRules, EachArrivalRules}

-- ---- of two times

module _ (from to : ℕ) where
  abbrev Arrives : Arrival → Type 0
  Arrives a = (earliest_of a ≡ from) × (latest_of a ≡ to) × (from ≤ to → to ≤ most_time → ArrivalRules a)

  arrives : Arrives (arrival_of from to)
  unfolding arrival_of
  arrives = go (eqb to from) refl
    where
      go : (t : Bool) → eqb to from ≡ t → Arrives (elim t as (λ _. Arrival) [ true ↦ fixed from | false ↦ between from to ])
      go true e = (refl, sym (eqb-true to from e), λ h k. rw (eqb-true to from e) at k)
      go false e = (refl, refl, λ h k. let other = eqb-false to from e in (omega arith, k))

  pub earliest_of_lem : earliest_of (arrival_of from to) ≡ from
  earliest_of_lem = arrives.0

  pub latest_of_lem : latest_of (arrival_of from to) ≡ to
  latest_of_lem = arrives.1

  -- in order and within the bound, they follow the rules
  pub kept_of : from ≤ to → to ≤ most_time → ArrivalRules (arrival_of from to)
  kept_of = arrives.2

-- ---- of an arrival that follows the rules

-- its two times give it back
pub arrival_again : (a : Arrival) → ArrivalRules a → arrival_of (earliest_of a) (latest_of a) ≡ a
unfolding arrival_of
arrival_again (fixed time) kept = rw (eq-eqb time time refl, arrival_of) refl
arrival_again (between from to) kept = rw (ne_eqb to from (λ e. omega arith), arrival_of) refl

pub kept_order : (a : Arrival) → ArrivalRules a → (earliest_of a ≤ latest_of a) × (latest_of a ≤ most_time)
kept_order (fixed time) kept = (omega arith, kept)
kept_order (between from to) kept = (omega arith, kept.1)

-- ---- of a list

-- the arrival of input i; fixed at 0 past the last
abbrev pub arrival_at : List Arrival → ℕ → Arrival
arrival_at arrivals i = get_or arrivals i (fixed 0)

pub each_order : (arrivals : List Arrival) → EachArrivalRules arrivals → (i : ℕ)
    → (earliest_of (arrival_at arrivals i) ≤ latest_of (arrival_at arrivals i)) × (latest_of (arrival_at arrivals i) ≤ most_time)
each_order [] kept i = (omega arith, omega arith)
each_order (a ∷ arrivals) kept zero = kept_order a kept.0
each_order (a ∷ arrivals) kept (suc i) = each_order arrivals kept.1 i
