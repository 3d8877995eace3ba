-- `fields::ends::separated_in` meets its contract, layout by layout.
-- Assumes nothing.
use Rattle.fields.proofs.ends.separated_in.Goals as goal

pub returns-in-Strict : goal.returns-in-Strict
returns-in-Strict c = rw c.in-Strict.is c.separated.ensures

pub returns-in-Loose : goal.returns-in-Loose
returns-in-Loose c = rw c.in-Loose.is c.loosely_separated.ensures
