-- `fields::header::names::is_new_name` meets its contract.
-- Assumes nothing.
use Rattle.laws.specs.Prelude.{ap, not}
use Rattle.fields.proofs.header.names.is_new_name.Goals as goal

pub returns-then-is_name : goal.returns-then-is_name
returns-then-is_name c = rw (← c.is_name.ensures, c.if-is_name.true) (ap not c.is_repeated.ensures)

pub returns : goal.returns
returns c = rw (← c.is_name.ensures, c.if-is_name.false)
