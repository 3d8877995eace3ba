-- `fields::header::names::is_letter` meets its contract.
-- Assumes nothing.
use Rattle.fields.specs.Header.Names.{letter_low, field_letter_high}
use Rattle.fields.proofs.header.names.is_letter.Goals as goal

pub returns-then-b-lt97 : goal.returns-then-b-lt97
returns-then-b-lt97 c = letter_low _ c.if-b-lt97.true

pub returns : goal.returns
returns c = field_letter_high _ c.if-b-lt97.false
