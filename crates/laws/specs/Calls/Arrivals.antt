-- The result of the call for arrival times, one law for each outcome.
-- Assumes nothing.
use Rattle.std.specs.Prelude.{◌≡◌}
use Rattle.laws.specs.Prelude.{ℕ, List}
use Rattle.rules.specs.Calls.Answers.{accepted, refused}
use Rattle.rules.specs.Nets.Arrivals.{settles, net_refused, arrivals_refused, ends_of, arrivals_call}
use Rattle.rules.specs.Sheets.Reading.{read_net}
use Rattle.rules.specs.Sheets.Sheets.{Net}
use Rattle.rules.specs.Sheets.ArrivalSheet.{Arrival, read_arrivals}

module _ (s r : List ℕ) (delay : ℕ) where
  pub arrivals_net_refused : (number place : ℕ) → read_net s ≡ refused number place → arrivals_call s r delay ≡ net_refused number place
  unfolding arrivals_call
  arrivals_net_refused number place e = rw (e, arrivals_call)

  module _ (net : Net) (reads : read_net s ≡ accepted net) where
    pub arrivals_refused_lem : (number place : ℕ) → read_arrivals net.header.names r ≡ refused number place
        → arrivals_call s r delay ≡ arrivals_refused number place
    unfolding arrivals_call
    arrivals_refused_lem number place e = rw (reads, e, arrivals_call)

    pub arrivals_timed : (arrivals : List Arrival) → read_arrivals net.header.names r ≡ accepted arrivals
        → arrivals_call s r delay ≡ settles (ends_of net arrivals delay)
    unfolding arrivals_call
    arrivals_timed arrivals e = rw (reads, e, arrivals_call)
