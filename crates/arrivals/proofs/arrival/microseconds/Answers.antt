-- `arrivals::arrival::microseconds` meets its contract: a whole number times 0.25 is its quarter, exactly.
-- Assumes nothing.
use Rattle.laws.specs.Prelude.{arith}
use Rattle.laws.specs.Numbers.Quarters.{quarter_of}
use Rattle.arrivals.proofs.arrival.microseconds.Goals as goal

pub returns : goal.returns
returns c = quarter_of c.args.quarters (omega (arith, c.ranges.quarters.fits))
