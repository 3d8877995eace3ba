-- `capi::arrival_times::sitgurp_arrivals` meets its contract: the call, its answer as three numbers and two doubles. Assumes nothing.
use Rattle.laws.specs.Prelude.{◌∙◌, ap}
use Rattle.capi.specs.Numbers.Timing.{flat_timing}
use Rattle.capi.proofs.arrival_times.sitgurp_arrivals.Goals as goal

pub returns : goal.returns
returns c = c.from.ensures ∙ ap flat_timing c.arrivals.ensures
