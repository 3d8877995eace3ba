-- `arrivals::joined::join` meets its contract, at each end.
-- Assumes nothing.
use Rattle.laws.specs.Prelude.{ap₂}
use lib.Ieee.{Float, binary64, add}
use Rattle.arrivals.specs.declared.arrival.Ends.{Ends}
use Rattle.arrivals.proofs.joined.join.Goals as goal

pub returns : goal.returns
returns c =
    let delay = c.args.delay in
    ap₂ {C = Ends} (λ (first last : Float). record { earliest = add binary64 first delay; latest = add binary64 last delay }) c.later-earliest.ensures
    c.later-latest.ensures
