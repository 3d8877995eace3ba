-- The meaning of an arrival and of two ends in f64: exact quarters of a microsecond.
-- Assumes nothing.
use Rattle.laws.specs.Prelude.{ℕ, max, refl, ap₂}
use Rattle.std.specs.Prelude.{Float, ◌<◌, ◌+◌, ◌≡◌}
use Rattle.std.specs.Float.{binary64}
use Rattle.std.specs.Float.Ieee.{add}
use Rattle.rules.specs.Sheets.ArrivalSheet as sheet
use Rattle.rules.specs.Sheets.ArrivalSheet.{fixed, between, earliest_of, latest_of}
use Rattle.rules.specs.Nets.Arrivals.{quarter}
use Rattle.laws.specs.Numbers.Quarters.{exact_below, later_of, quarter_joined}
use Rattle.arrivals.specs.declared.arrival.Arrival.{Arrival}
use Rattle.arrivals.specs.declared.arrival.Arrival.TheVariants.{Fixed, Between}
use Rattle.arrivals.specs.declared.arrival.Ends.{Ends}

-- an arrival of the sheet, by its quarters
abbrev pub timed : sheet.Arrival → Arrival
timed (fixed time) = Fixed (quarter time)
timed (between from to) = Between (quarter from) (quarter to)

-- the ends of an arrival
abbrev pub ends_in : Arrival → Ends
ends_in (Fixed time) = record { earliest = time; latest = time }
ends_in (Between earliest latest) = record { earliest = earliest; latest = latest }

-- two ends, given in quarters
abbrev pub ends_at : ℕ → ℕ → Ends
ends_at earliest latest = record { earliest = quarter earliest; latest = quarter latest }

pub ends_timed : (a : sheet.Arrival) → ends_in (timed a) ≡ ends_at (earliest_of a) (latest_of a)
ends_timed (fixed time) = refl
ends_timed (between from to) = refl

-- at each end, the later of the two plus one delay
abbrev pub joined_ends : Ends → Ends → Float → Ends
joined_ends left right delay =
    record {
      earliest = add binary64 (later_of left.earliest right.earliest) delay;
      latest = add binary64 (later_of left.latest right.latest) delay;
    }

-- on quarters, this is the maximum and the sum of whole numbers
pub joined_at : (a b c d delay : ℕ) → max a c < exact_below → max b d < exact_below → delay < exact_below
    → joined_ends (ends_at a b) (ends_at c d) (quarter delay) ≡ ends_at (max a c + delay) (max b d + delay)
joined_at a b c d delay first second small =
    ap₂ (λ (earliest latest : Float). record { earliest = earliest; latest = latest }) (quarter_joined a c delay first small)
    (quarter_joined b d delay second small)
