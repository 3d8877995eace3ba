-- The answer of the call of arrival times as three numbers and two doubles.
-- Assumes nothing.
use Rattle.std.specs.Prelude.{ℕ, Float}
use Rattle.std.specs.Float.{binary64}
use Rattle.std.specs.Float.Ieee.{of_bits}
use Rattle.rules.specs.Nets.Arrivals.{Timing, settles, net_refused, arrivals_refused}
use Rattle.capi.specs.declared.numbers.timing.SitgurpArrivalTimes.{SitgurpArrivalTimes}

-- 0.0, the double whose bits are all 0
abbrev pub no_time : Float
no_time = of_bits binary64 0

-- a refusal: the sheet that it names, its number and its place, and no times
abbrev pub flat_refused : ℕ → ℕ → ℕ → SitgurpArrivalTimes
flat_refused named number place = record { named = named; number = number; place = place; earliest = no_time; latest = no_time }

-- the two ends under number 0; or a refusal of the net sheet, 1, or of the arrival sheet, 2
abbrev pub flat_timing : Timing → SitgurpArrivalTimes
flat_timing (settles ends) = record { named = 0; number = 0; place = 0; earliest = ends.earliest; latest = ends.latest }
flat_timing (net_refused number place) = flat_refused 1 number place
flat_timing (arrivals_refused number place) = flat_refused 2 number place
