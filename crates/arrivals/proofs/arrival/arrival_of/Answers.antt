-- `arrivals::arrival::arrival_of` meets its contract: the test distinguishes the two cases.
-- Assumes nothing.
use Rattle.laws.specs.Prelude.{ap, ap₂, eq-eqb, ne_eqb}
use Rattle.rules.specs.Sheets.ArrivalSheet.{arrival_of}
use Rattle.arrivals.specs.declared.arrival.Arrival.TheVariants.{Fixed, Between}
use Rattle.arrivals.proofs.arrival.arrival_of.Goals as goal

pub returns-then-span : goal.returns-then-span
unfolding arrival_of
returns-then-span c = rw (eq-eqb _ _ c.if-span.true, arrival_of) (ap Fixed c.microseconds-earliest.ensures)

pub returns : goal.returns
unfolding arrival_of
returns c = rw (ne_eqb _ _ c.if-span.false, arrival_of) (ap₂ Between c.microseconds-earliest.ensures c.microseconds-latest.ensures)
